-- A grammar over bytes with zero padding: each symbol by the rule of `symbol_of` without its refusal, so every run ends in a value.
use Rattle.std.specs.Prelude.{◌+◌, ◌-◌, ◌*◌}
use Rattle.numbers.specs.Words.{ℕ, Bool, leb, List}
use Rattle.reader.specs.declared.boolean.Reader.{Reader}
use Rattle.reader.specs.Reading.{split_of, chosen_of, grow, Reading, done, ask}

unfoldable pub padded_bit : Reader → ℕ → Bool
padded_bit r p = leb (256 * split_of r.range p) r.window

unfoldable pub padded_next : List ℕ → Reader → ℕ → Reader
padded_next s r p = grow 7 s (chosen_of r (split_of r.range p) (padded_bit r p))

unfoldable pub run_padded : {A : Type 0} → Reading A → List ℕ → Reader → A × Reader
run_padded (done a) s r = (a, r)
run_padded (ask p k) s r = run_padded (k (padded_bit r p)) s (padded_next s r p)

-- how many bits a reader has passed
abbrev pub passed : Reader → ℕ
passed r = 8 * (r.at - 2) + r.shifts
