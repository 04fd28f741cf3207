use Rattle.numbers.specs.Words.{ℕ, ◌≡◌, sym, ◌∙◌, ⊎_elim, lt_or, length, get_or, get_or-eq_default, rules}
use Rattle.tile.specs.Tile.{Tile, no_span, span_at_of}
use Rattle.tile.specs.PartitionsLaws.{span_at_lem, span_past}
use Rattle.tile.proofs.partitions.span.Goals as goal

found : (t : Tile) (i : ℕ) → length t.tokens ≡ 8 → get_or t.tokens i no_span ≡ span_at_of t i
found t i e = ⊎_elim (λ h. sym (span_at_lem t i h)) (λ h. get_or-eq_default t.tokens no_span {n = i} (rw e h) ∙ sym (span_past t i h)) (lt_or i 8)

pub returns : goal.returns
returns c = let e : c.unwrap_or.result ≡ get_or c.args.tile.tokens c.args.i no_span = search rules in e ∙ found _ _ (search rules)
