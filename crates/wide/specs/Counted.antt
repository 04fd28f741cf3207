-- A grammar that gives, beside its value, how many symbols were asked (M-103): then a count is a part of what code over a wide reader reads.
use Rattle.numbers.specs.Words.{ℕ, suc}
use Rattle.reader.specs.Reading.{Reading, done, ask}

-- from n symbols on
unfoldable pub counted : {A : Type 0} → ℕ → Reading A → Reading (A × ℕ)
counted n (done a) = done (a, n)
counted n (ask p k) = ask p (λ b. counted (suc n) (k b))
