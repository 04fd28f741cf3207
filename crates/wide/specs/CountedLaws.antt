-- The laws of grammars that count: their runs and their parts, one that counts or one whose value says what it read.
use Rattle.std.specs.Prelude.{◌+◌, ◌≡◌}
use Rattle.numbers.specs.Words.{ℕ, suc, add-suc, add-zero, arith, refl, sym, ◌∙◌, ap, Bool, List}
use Rattle.reader.specs.declared.boolean.Reader.{Reader}
use Rattle.reader.specs.Reading.{Given, given, missing, symbol_of, Reading, done, ask, ◌>>=◌, run, Within, ends, asks, count}
use Rattle.reader.specs.Counts.{Costs}
use Rattle.reader.specs.Counts as counts
use Rattle.reader.specs.ReadingLaws.{never_both, run_done, run_missing, run_got, count_done, count_got}
use Rattle.wide.specs.Counted.{counted}

-- ---- THE LAW: a run that counts gives what the run gives, and how many symbols it reads
pub record Ran {A : Type 0} (g : Reading A) (s : List ℕ) (r : Reader) (a : A) (c : ℕ) (q : Reader) : Type 0 where
  pub same : run g s r ≡ given a q
  pub reads : count g s r ≡ c

run_from : {A : Type 0} (g : Reading A) (s : List ℕ) (r : Reader) (n : ℕ) {a : A} {m : ℕ} {q : Reader} → run (counted n g) s r ≡ given (a, m) q → (run g s r ≡ given a q) × (count g s r + n ≡ m)
unfolding counted
run_from {A} (done x) s r n {a} {m} {q} e =
    let y : A × ℕ = (x, n) in
    let z : A × ℕ = (a, m) in
    let f : given y r ≡ given z q = sym (run_done y s r) ∙ e in
    let g : y ≡ z = cc in
    let h : r ≡ q = cc in
    (run_done x s r ∙ (λ i. given (g i).0 (h i)), omega (arith, count_done x s r, ap (λ (z : A × ℕ). z.1) g))
run_from (ask p k) s r n {a} {m} {q} e = go (λ b t. run_from (k b) s t (suc n)) (symbol_of s r p) refl
  where
    go : ((b : Bool) (t : Reader) → run (counted (suc n) (k b)) s t ≡ given (a, m) q → (run (k b) s t ≡ given a q) × (count (k b) s t + suc n ≡ m)) → (x : Given Bool) → symbol_of s r p ≡ x → (run (ask p k) s r ≡ given a q) × (count (ask p k) s r + n ≡ m)
    go ih missing f = absurd (never_both e (run_missing p (λ b. counted (suc n) (k b)) s r f))
    go ih (given b t) f =
        let c = ih b t (sym (run_got p (λ b. counted (suc n) (k b)) s r b t f) ∙ e) in
        (run_got p k s r b t f ∙ c.0, omega (arith, count_got p k s r b t f, c.1))

pub counted_run : {A : Type 0} (g : Reading A) (s : List ℕ) (r : Reader) {a : A} {c : ℕ} {q : Reader} → run (counted 0 g) s r ≡ given (a, c) q → Ran g s r a c q
counted_run g s r e = let f = run_from g s r 0 e in record { same = f.0; reads = omega (arith, f.1) }

-- ---- one part after another: a first part that counts, and one whose value tells what it cost
counted_on : {A B : Type 0} (m : Reading A) (f : A → Reading B) (c n : ℕ) → counted (c + n) (m >>= f) ≡ (counted n m >>= (λ x. counted (c + x.1) (f x.0)))
unfolding counted
counted_on (done a) f c n = refl
counted_on (ask p k) f c n = λ i. ask p (λ b. (ap (λ (j : ℕ). counted j (k b >>= f)) (sym (add-suc c n)) ∙ counted_on (k b) f c (suc n)) i)

pub counted_then : {A B : Type 0} (m : Reading A) (f : A → Reading B) (c : ℕ) → counted c (m >>= f) ≡ (counted 0 m >>= (λ x. counted (c + x.1) (f x.0)))
counted_then m f c = ap (λ (j : ℕ). counted j (m >>= f)) (sym (add-zero c)) ∙ counted_on m f c 0

-- a first part that counts on
pub counted_next : {A B : Type 0} (m : Reading A) (f : A → Reading B) (n : ℕ) → counted n (m >>= f) ≡ (counted n m >>= (λ x. counted x.1 (f x.0)))
unfolding counted
counted_next (done a) f n = refl
counted_next (ask p k) f n = λ i. ask p (λ b. counted_next (k b) f (suc n) i)

-- what every path gives, it gives counted
pub within_counted : {A : Type 0} {P : A → Type 0} {n : ℕ} {m : Reading A} (c : ℕ) → Within P n m → Within (λ x. P x.0) n (counted c m)
unfolding counted
within_counted c (ends h) = ends h
within_counted c (asks h f) = asks h (λ b. within_counted (suc c) (f b))

-- a first part whose value says how many symbols it read
costs_on : {A B : Type 0} {reads : A → ℕ} {n : ℕ} {m : Reading A} (f : A → Reading B) (c : ℕ) → Costs reads n m → counted (c + n) (m >>= f) ≡ (m >>= (λ a. counted (c + reads a) (f a)))
unfolding counted
costs_on f c (counts.ends {a} e) = ap (λ (j : ℕ). counted (c + j) (f a)) (sym e)
costs_on f c (counts.asks {n} {p} {k} h) = λ i. ask p (λ b. (ap (λ (j : ℕ). counted j (k b >>= f)) (sym (add-suc c n)) ∙ costs_on f c (h b)) i)

pub counted_costs : {A B : Type 0} {reads : A → ℕ} {m : Reading A} (f : A → Reading B) (c : ℕ) → Costs reads 0 m → counted c (m >>= f) ≡ (m >>= (λ a. counted (c + reads a) (f a)))
counted_costs {m} f c h = ap (λ (j : ℕ). counted j (m >>= f)) (sym (add-zero c)) ∙ costs_on f c h
