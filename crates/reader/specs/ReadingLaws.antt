-- The laws of the boolean decoder, of grammars and of traces.
use Rattle.std.specs.Prelude.{◌+◌, ◌-◌, ◌*◌, ◌/◌, ◌%◌, ◌^◌, ◌≤◌, ◌<◌, ◌≡◌, ◌⊎◌, ◌∷◌, ◌++◌}
use Rattle.numbers.specs.Words.{ℕ, zero, suc, div-lt_iff_lt-mul, mul-lt-mul_of_pos_left, mul-one, arith, twice, cases8, refl, sym, ◌∙◌, Bool, true, false, ⊎_elim, eqb, ltb, leb, lit<, lt_or, eq_or, not_so, both_left, both_right, eq-eqb, eqb-true, le-leb, le-ltb, leb-true, not_first, lt-leb, lt-ltb, ltb-true, ne_eqb, List, length, get_or, suc-add, ap, [], length-append, Ok, Err}
use Rattle.reader.specs.declared.boolean.Unread.TheVariants as U
pub use Rattle.numbers.specs.Lists.{Bytes}
pub use Rattle.reader.specs.Reading.{From, Valid}
use Rattle.reader.specs.Reading.{Reader, Unread, Given, given, missing, split_of, chosen_of, shifted, loaded, grow, decided_of, symbol_of, first_reader, valid_of, ReadOf, to_read, symbol_answer, Reading, done, ask, ◌>>=◌, symbol, run, Within, ends, asks, CodedSymbol, trace, count, Follows, stop, take, Answers, none, more}

-- ==== The laws of the boolean decoder that callers cite: one turn of the doubling, and that a reader in range stays in range.

-- what a partition gives from a place on: a reader in range, no earlier
abbrev pub Next : {A : Type 0} → List ℕ → ℕ → Given A → Type 0
Next s at (given a r) = Valid s r × (at ≤ r.at)
Next s at missing = Unit {0}

-- ---- one turn of the doubling
module _ (n : ℕ) (s : List ℕ) (r : Reader) where
  pub grow_shift : r.range < 128 → (r.shifts ≡ 7 → ⊥) → grow (suc n) s r ≡ grow n s (shifted r)
  unfolding grow
  grow_shift h e = rw (lt-ltb r.range 128 h, ne_eqb _ _ e, grow)

  pub grow_load : r.range < 128 → r.shifts ≡ 7 → grow (suc n) s r ≡ grow n s (loaded (get_or s r.at 0) r)
  unfolding grow
  grow_load h e = rw (lt-ltb _ _ h, eq-eqb _ _ e, grow)

pub grow_stop : (n : ℕ) (s : List ℕ) (r : Reader) → 128 ≤ r.range → grow n s r ≡ r
unfolding grow
grow_stop zero s r h = refl
grow_stop (suc n) s r h = rw (le-ltb r.range 128 h, grow)

-- more shifts than suffice change nothing
pub grow_enough : (n : ℕ) (s : List ℕ) (r : Reader) → 128 ≤ r.range * 2 ^ n → grow (suc n) s r ≡ grow n s r
grow_enough zero s r h =
    let g : 128 ≤ r.range = omega (arith, mul-one r.range) in
    grow_stop 1 s r g ∙ sym (grow_stop 0 s r g)
grow_enough (suc n) s r h =
    ⊎_elim
    (λ l. ⊎_elim
    (λ e. grow_load (suc n) s r l e ∙ grow_enough n s (loaded (get_or s r.at 0) r) (rw twice h) ∙ sym (grow_load n s r l e))
    (λ e. grow_shift (suc n) s r l e ∙ grow_enough n s (shifted r) (rw twice h) ∙ sym (grow_shift n s r l e))
    (eq_or r.shifts 7))
    (λ g. grow_stop (suc (suc n)) s r g ∙ sym (grow_stop (suc n) s r g))
    (lt_or r.range 128)

-- ---- the split lies strictly inside the range
pub split_is : (range prob : ℕ) → 2 ≤ range → prob < 256 → (1 + (range - 1) * prob / 256 ≡ split_of range prob) × (1 ≤ split_of range prob) × (split_of range prob < range)
unfolding split_of
split_is range prob h p =
    let q : (range - 1) * prob / 256 < range - 1 = (div-lt_iff_lt-mul {k = 256} (lit< tt)).1 (mul-lt-mul_of_pos_left p (omega arith)) in
    (refl, omega arith, omega arith)

-- ---- whether a symbol is decided
-- one where shifts have begun a byte
abbrev pub bits_begun : ℕ → ℕ
bits_begun zero = 0
bits_begun (suc n) = 1

same_test : (a b c d : ℕ) → (a ≤ b → c ≤ d) → (b < a → d < c) → leb a b ≡ leb c d
same_test a b c d f g =
    ⊎_elim
    (λ (h : b < a). rw (lt-leb a b h, lt-leb c d (g h)))
    (λ (h : a ≤ b). rw (le-leb a b h, le-leb c d (f h)))
    (lt_or b a)

begun_test : (a n l : ℕ) → 2 ≤ a → n < 8 → leb (8 * (a - 2) + n + 8) (8 * l) ≡ leb (a + bits_begun n) (l + 1)
begun_test a zero l p f = same_test (8 * (a - 2) + 0 + 8) (8 * l) (a + 0) (l + 1) (λ h. omega arith) (λ h. omega arith)
begun_test a (suc n) l p f = same_test (8 * (a - 2) + suc n + 8) (8 * l) (a + 1) (l + 1) (λ h. omega arith) (λ h. omega arith)

module _ (s : List ℕ) (r : Reader) where
  pub decided_fact : decided_of s r ≡ true → 8 * (r.at - 2) + r.shifts + 8 ≤ 8 * length s
  unfolding decided_of
  decided_fact e = leb-true _ _ e

  -- it is where the place is inside; past the end, right after the first load that found no byte
  module _ (p : 2 ≤ r.at) (f : r.shifts < 8) where
    pub decided_inside : r.at ≤ length s → decided_of s r ≡ true
    unfolding decided_of
    decided_inside h = le-leb (8 * (r.at - 2) + r.shifts + 8) (8 * length s) (omega arith)

    pub decided_edge : length s < r.at → eqb (r.at - length s + r.shifts) 1 ≡ decided_of s r
    unfolding decided_of
    decided_edge h =
        ⊎_elim
        (λ (e : r.at - length s + r.shifts ≡ 1). rw (eq-eqb _ _ e, le-leb (8 * (r.at - 2) + r.shifts + 8) (8 * length s) (omega arith)))
        (λ (e : r.at - length s + r.shifts ≡ 1 → ⊥). rw (ne_eqb _ _ e, lt-leb (8 * (r.at - 2) + r.shifts + 8) (8 * length s) (omega arith)))
        (eq_or (r.at - length s + r.shifts) 1)

    -- in one test: the bytes that were loaded, and one more where shifts have begun it, are at most one past the end
    pub decided_test : decided_of s r ≡ leb (r.at + bits_begun r.shifts) (length s + 1)
    unfolding decided_of
    decided_test = begun_test r.at r.shifts (length s) p f

-- ---- a symbol is missing, or its bit and the doubling
pub symbol_missing : (s : List ℕ) (r : Reader) (p : ℕ) → decided_of s r ≡ false → symbol_of s r p ≡ missing
unfolding symbol_of
symbol_missing s r p e = rw (e, symbol_of)

pub symbol_is : (s : List ℕ) (r : Reader) (p x : ℕ) → decided_of s r ≡ true → x ≡ split_of r.range p → (b : Bool) → b ≡ leb (256 * x) r.window → symbol_of s r p ≡ given b (grow 7 s (chosen_of r x b))
unfolding symbol_of
symbol_is s r p x d e true f = rw (d, e, sym (rw e at f), symbol_of)
symbol_is s r p x d e false f = rw (d, e, sym (rw e at f), symbol_of)

-- ---- a reader in range stays in range
-- a shift keeps the window's low zeros, one more of them; a split keeps them all
even_shift : (w k : ℕ) → k < 7 → w % 2 ^ k ≡ 0 → w * 2 % 65536 % 2 ^ (k + 1) ≡ 0
even_shift w k l =
    cases8 (λ n. n < 7 → w % 2 ^ n ≡ 0 → w * 2 % 65536 % 2 ^ (n + 1) ≡ 0)
    (λ l e. omega arith) (λ l e. omega arith) (λ l e. omega arith) (λ l e. omega arith) (λ l e. omega arith) (λ l e. omega arith) (λ l e. omega arith) (λ l e. omega arith)
    k (omega arith) l

even_sub : (w x k : ℕ) → k < 8 → 256 * x ≤ w → w % 2 ^ k ≡ 0 → (w - 256 * x) % 2 ^ k ≡ 0
even_sub w x k l h =
    cases8 (λ n. w % 2 ^ n ≡ 0 → (w - 256 * x) % 2 ^ n ≡ 0)
    (λ e. omega arith) (λ e. omega arith) (λ e. omega arith) (λ e. omega arith) (λ e. omega arith) (λ e. omega arith) (λ e. omega arith) (λ e. omega arith)
    k l

stopped : (s : List ℕ) (r : Reader) → 128 ≤ r.range → From 1 s r → Valid s r
stopped s r h f = record { placed = f.placed; inside = f.inside; least = h; most = f.most; few = f.few; small = f.small; even = f.even }

after_shift : (s : List ℕ) (r : Reader) → r.range < 128 → (r.shifts ≡ 7 → ⊥) → From 1 s r → From 1 s (shifted r)
after_shift s r l e f =
    record { placed = f.placed; inside = f.inside; least = omega arith; most = omega arith; few = omega arith; small = omega arith; even = even_shift r.window r.shifts (omega arith) f.even }

after_load : (s : List ℕ) (r : Reader) (b : ℕ) → b < 256 → r.range < 128 → r.shifts ≡ 7 → r.at < length s + 2 → From 1 s r → From 1 s (loaded b r)
after_load s r b y l e a f =
    let z : r.window % 128 ≡ 0 = rw e at f.even in
    record { placed = omega arith; inside = omega arith; least = omega arith; most = omega arith; few = omega arith; small = omega arith; even = omega arith }

-- the place counts the shifts: n of them from here load at most one byte past the last two
grow_valid : (n : ℕ) (s : List ℕ) (r : Reader) → Bytes s → 128 ≤ r.range * 2 ^ n → 8 * r.at + r.shifts + n < 8 * length s + 24 → From 1 s r → Valid s (grow n s r) × (r.at ≤ (grow n s r).at)
grow_valid zero s r y h d f =
    let g : 128 ≤ r.range = omega (arith, mul-one r.range) in
    rw (grow_stop 0 s r g) (stopped s r g f, omega arith)
grow_valid (suc n) s r y h d f =
    ⊎_elim
    (λ l. ⊎_elim
    (λ e. rw (grow_load n s r l e) (let q = grow_valid n s (loaded (get_or s r.at 0) r) y (rw twice h) (omega arith) (after_load s r _ (y r.at) l e (omega arith) f) in (q.0, omega (arith, q.1))))
    (λ e. rw (grow_shift n s r l e) (grow_valid n s (shifted r) y (rw twice h) (omega arith) (after_shift s r l e f)))
    (eq_or r.shifts 7))
    (λ g. rw (grow_stop (suc n) s r g) (stopped s r g f, omega arith))
    (lt_or r.range 128)

-- the reader after the split, for either bit
pub from_part : (s : List ℕ) (r : Reader) (x : ℕ) → Valid s r → 1 ≤ x → x < r.range → (b : Bool) → b ≡ leb (256 * x) r.window → From 1 s (chosen_of r x b)
from_part s r x f m l true e =
    let g : 256 * x ≤ r.window = leb-true _ _ (sym e) in
    record { placed = f.placed; inside = f.inside; least = omega arith; most = omega arith; few = f.few; small = omega arith; even = even_sub r.window x r.shifts f.few g f.even }
from_part s r x f m l false e = record { placed = f.placed; inside = f.inside; least = m; most = omega arith; few = f.few; small = f.small; even = f.even }

part_place : (r : Reader) (x : ℕ) (b : Bool) → (chosen_of r x b).at ≡ r.at
part_place r x true = refl
part_place r x false = refl

part_shifts : (r : Reader) (x : ℕ) (b : Bool) → (chosen_of r x b).shifts ≡ r.shifts
part_shifts r x true = refl
part_shifts r x false = refl

-- THE LAW of a symbol: a reader in range gives a reader in range, no earlier in s
pub symbol_valid : (s : List ℕ) (r : Reader) (p : ℕ) → Bytes s → p < 256 → Valid s r → Next s r.at (symbol_of s r p)
symbol_valid s r p y h f = go (decided_of s r) refl
  where
    enough : {x : ℕ} → 1 ≤ x → 128 ≤ x * 2 ^ 7
    enough l = omega arith

    go : (d : Bool) → decided_of s r ≡ d → Next s r.at (symbol_of s r p)
    go false d = rw (symbol_missing s r p d) tt
    go true d =
        let x : ℕ = split_of r.range p in
        let i = split_is r.range p (omega arith) h in
        let b : Bool = leb (256 * x) r.window in
        let g = from_part s r x f i.1 i.2 b refl in
        rw (symbol_is s r p x d refl b refl)
        (rw (part_place r x b) at (grow_valid 7 s (chosen_of r x b) y (enough g.least) (omega (arith, decided_fact s r d, part_place r x b, part_shifts r x b, f.placed)) g))

-- THE LAW for callers of `open`: a partition's first reader is in range, however few its bytes
pub first_valid : (s : List ℕ) → Bytes s → Valid s (first_reader s)
first_valid s y =
    record { placed = omega arith; inside = omega arith; least = omega arith; most = omega arith; few = omega arith; small = omega (arith, y 0, y 1); even = omega arith }

-- ---- the test of a reader, and the answers
module _ (s : List ℕ) (r : Reader) where
  pub valid_test : Valid s r → valid_of s r ≡ true
  unfolding valid_of
  valid_test v = rw (le-leb _ _ v.placed, le-leb _ _ v.inside, le-leb _ _ v.least, lt-ltb _ _ v.most, lt-ltb _ _ v.few, lt-ltb _ _ v.small, eq-eqb _ _ v.even)

  pub valid_fact : valid_of s r ≡ true → Valid s r
  unfolding valid_of
  valid_fact e =
      let e1 = both_right (leb 2 r.at) _ e in
      let e2 = both_right (leb r.at (length s + 2)) _ e1 in
      let e3 = both_right (leb 128 r.range) _ e2 in
      let e4 = both_right (ltb r.range 256) _ e3 in
      let e5 = both_right (ltb r.shifts 8) _ e4 in
      record {
        placed = leb-true _ _ (both_left _ _ e);
        inside = leb-true _ _ (both_left _ _ e1);
        least = leb-true _ _ (both_left _ _ e2);
        most = ltb-true _ _ (both_left _ _ e3);
        few = ltb-true _ _ (both_left _ _ e4);
        small = ltb-true _ _ (both_left _ _ e5);
        even = eqb-true _ _ (both_right (ltb r.window 65536) _ e5);
      }

  pub valid_not : (Valid s r → ⊥) → false ≡ valid_of s r
  valid_not f = not_so (valid_of s r) (λ e. f (valid_fact e))

  -- where all but the last hold, the last decides
  pub valid_even : 2 ≤ r.at → r.at ≤ length s + 2 → 128 ≤ r.range → r.range < 256 → r.shifts < 8 → r.window < 65536 → eqb (r.window % 2 ^ r.shifts) 0 ≡ valid_of s r
  unfolding valid_of
  valid_even a b c d e f = rw (le-leb _ _ a, le-leb _ _ b, le-leb _ _ c, lt-ltb _ _ d, lt-ltb _ _ e, lt-ltb _ _ f)

  pub symbol_good : (p : ℕ) → Valid s r → symbol_answer s r p ≡ to_read (symbol_of s r p)
  unfolding symbol_answer
  symbol_good p v = rw (valid_test v, symbol_answer)

  pub symbol_refused : (p : ℕ) → valid_of s r ≡ false → Err U.Refused ≡ symbol_answer s r p
  unfolding symbol_answer
  symbol_refused p e = rw (e, symbol_answer)

-- ==== The laws of grammars: all that a proof of code cites. Nothing above this crate opens `symbol_of`.

-- an answer that gives a value misses no byte
pub never_both : {A : Type 0} {x : Given A} {a : A} {r : Reader} → x ≡ given a r → x ≡ missing → ⊥
never_both e f = let z : ◌≡◌ {A = ℕ} 0 1 = cc in omega arith

-- ---- one question
pub run_done : {A : Type 0} (a : A) (s : List ℕ) (r : Reader) → run (done a) s r ≡ given a r
unfolding run
run_done a s r = refl

pub run_missing : {A : Type 0} (p : ℕ) (k : Bool → Reading A) (s : List ℕ) (r : Reader) → symbol_of s r p ≡ missing → run (ask p k) s r ≡ missing
unfolding run
run_missing p k s r e = rw (e, run)

pub run_got : {A : Type 0} (p : ℕ) (k : Bool → Reading A) (s : List ℕ) (r : Reader) (b : Bool) (r2 : Reader) → symbol_of s r p ≡ given b r2 → run (ask p k) s r ≡ run (k b) s r2
unfolding run
run_got p k s r b r2 e = rw (e, run)

-- what a test of the bit showed
pub with_bit : {x : Given Bool} {b c : Bool} {r : Reader} → x ≡ given b r → b ≡ c → x ≡ given c r
with_bit {r} e f = e ∙ ap (λ (b : Bool). given b r) f

-- ---- one part after another: what the first part gave, and on
module _ {A B : Type 0} (f : A → Reading B) (s : List ℕ) where
  pub run_then : (m : Reading A) (r : Reader) {a : A} {r2 : Reader} → run m s r ≡ given a r2 → run (m >>= f) s r ≡ run (f a) s r2
  unfolding run
  run_then (done x) r {a} {r2} e = let g : x ≡ a = cc in let h : r ≡ r2 = cc in rw (g, h)
  run_then (ask p k) r {a} {r2} e = go (λ b q. run_then (k b) q) (symbol_of s r p) refl
    where
      go : ((b : Bool) (q : Reader) → run (k b) s q ≡ given a r2 → run (k b >>= f) s q ≡ run (f a) s r2) → (x : Given Bool) → symbol_of s r p ≡ x → run (ask p (λ b. k b >>= f)) s r ≡ run (f a) s r2
      go ih missing g = absurd (never_both e (run_missing p k s r g))
      go ih (given b q) g = run_got p (λ b. k b >>= f) s r b q g ∙ ih b q (sym (run_got p k s r b q g) ∙ e)

  pub run_stops : (m : Reading A) (r : Reader) → run m s r ≡ missing → run (m >>= f) s r ≡ missing
  unfolding run
  run_stops (done x) r e = absurd (never_both refl e)
  run_stops (ask p k) r e = go (λ b q. run_stops (k b) q) (symbol_of s r p) refl
    where
      go : ((b : Bool) (q : Reader) → run (k b) s q ≡ missing → run (k b >>= f) s q ≡ missing) → (x : Given Bool) → symbol_of s r p ≡ x → run (ask p (λ b. k b >>= f)) s r ≡ missing
      go ih missing g = run_missing p (λ b. k b >>= f) s r g
      go ih (given b q) g = run_got p (λ b. k b >>= f) s r b q g ∙ ih b q (sym (run_got p k s r b q g) ∙ e)

-- ---- what every path of a grammar has
pub within_more : {A : Type 0} {P : A → Type 0} {n k : ℕ} {m : Reading A} → n ≤ k → Within P n m → Within P k m
within_more l (ends h) = ends h
within_more {k = zero} l (asks h f) = absurd (omega arith)
within_more {k = suc k} l (asks {n} h f) = let g : n ≤ k = omega arith in asks h (λ b. within_more g (f b))

pub within_weaken : {A : Type 0} {P Q : A → Type 0} {n : ℕ} {m : Reading A} → ((a : A) → P a → Q a) → Within P n m → Within Q n m
within_weaken g (ends {a} h) = ends (g a h)
within_weaken g (asks h f) = asks h (λ b. within_weaken g (f b))

pub within_bind : {A B : Type 0} {P : A → Type 0} {Q : B → Type 0} {n k : ℕ} {m : Reading A} {f : A → Reading B} → Within P n m → ((a : A) → P a → Within Q k (f a)) → Within Q (n + k) (m >>= f)
within_bind (ends {a} h) g = within_more (omega arith) (g a h)
within_bind {k} (asks {n} h f) g = rw (suc-add n k) (asks h (λ b. within_bind (f b) g))

pub within_symbol : {p : ℕ} → p < 256 → Within (λ (b : Bool). Unit {0}) 1 (symbol p)
within_symbol h = asks h (λ b. ends tt)

-- what a run ends with
pub record ReadTo {A : Type 0} (P : A → Type 0) (s : List ℕ) (r : Reader) (a : A) (r2 : Reader) : Type 0 where
  pub value : P a
  pub valid : Valid s r2
  pub later : r.at ≤ r2.at

-- THE LAW of a run, for every grammar at once: a valid reader stays valid, and its place never falls
pub run_valid : {A : Type 0} {P : A → Type 0} {n : ℕ} {m : Reading A} {s : List ℕ} {r : Reader} {a : A} {r2 : Reader} → Within P n m → Bytes s → Valid s r → run m s r ≡ given a r2 → ReadTo P s r a r2
unfolding run
run_valid {P} {s} {r} {a} {r2} (ends {a = x} h) y v e =
    let g : x ≡ a = cc in
    let i : r ≡ r2 = cc in
    record { value = rw g at h; valid = rw i at v; later = rw i (omega arith) }
run_valid {P} {s} {r} {a} {r2} (asks {n} {p} {k} h f) y v e = go (λ b q. run_valid (f b) y) (symbol_of s r p) refl
  where
    go : ((b : Bool) (q : Reader) → Valid s q → run (k b) s q ≡ given a r2 → ReadTo P s q a r2) → (x : Given Bool) → symbol_of s r p ≡ x → ReadTo P s r a r2
    go ih missing g = absurd (never_both e (run_missing p k s r g))
    go ih (given b q) g =
        let z : Valid s q × (r.at ≤ q.at) = rw g at (symbol_valid s r p y h v) in
        let w : ReadTo P s q a r2 = ih b q z.0 (sym (run_got p k s r b q g) ∙ e) in
        record { value = w.value; valid = w.valid; later = omega arith }

-- ---- what a call's answer says of the grammar. A refusal cannot happen where the arguments are good, so it may be sent anywhere:
-- callers then treat every answer but a value alike.
abbrev pub from_read : {A : Type 0} → ReadOf A → Given A
from_read (Ok x) = given x.0 x.1
from_read (Err u) = missing

pub from_read_lem : {A : Type 0} (g : Given A) → g ≡ from_read (to_read g)
from_read_lem (given a r) = refl
from_read_lem missing = refl

-- every answer but a value says that a byte is missing, whatever `tag` numbers the cases from 0
pub not_got : {A : Type 0} (tag : ReadOf A → ℕ) → ((v : A) (r : Reader) → tag (Ok (v, r)) ≡ 0) → (x : ReadOf A) → (tag x ≡ 1) ⊎ (tag x ≡ 2) → from_read x ≡ missing
not_got tag z (Ok x) e = absurd (not_first e (z x.0 x.1))
not_got tag z (Err u) e = refl

-- why a run gave nothing
pub unread_missing : {A : Type 0} {u : Unread} (g : Given A) → Err u ≡ to_read g → u ≡ U.Missing
unread_missing (given a r) e = cc
unread_missing missing e = cc

-- THE LAW for callers of `symbol`, and the same of the inner call that asks a reader in range
module _ (s : List ℕ) (r : Reader) (p : ℕ) where
  run_symbol : run (symbol p) s r ≡ symbol_of s r p
  run_symbol = one (symbol_of s r p) refl
    where
      one : (x : Given Bool) → symbol_of s r p ≡ x → run (symbol p) s r ≡ symbol_of s r p
      one (given b q) g = run_got p done s r b q g ∙ run_done b s q ∙ sym g
      one missing g = run_missing p done s r g ∙ sym g

  pub answered : {x : ReadOf Bool} → x ≡ to_read (symbol_of s r p) → run (symbol p) s r ≡ from_read x
  answered e = run_symbol ∙ from_read_lem (symbol_of s r p) ∙ ap from_read (sym e)

  -- from a reader in range it answers what the grammar's run gives
  pub symbol_told : Valid s r → {x : ReadOf Bool} → x ≡ symbol_answer s r p → x ≡ to_read (run (symbol p) s r)
  symbol_told v e = e ∙ symbol_good s r p v ∙ ap to_read (sym run_symbol)

  pub symboled : Valid s r → {x : ReadOf Bool} → x ≡ symbol_answer s r p → run (symbol p) s r ≡ from_read x
  symboled v e = answered (e ∙ symbol_good s r p v)

-- ==== The laws of traces: what M-103 (the count is a trace's length) and M-112 (a list that answers alike gives the same value) cite.

-- ---- one question
pub trace_done : {A : Type 0} (a : A) (s : List ℕ) (r : Reader) → trace (done a) s r ≡ []
unfolding trace
trace_done a s r = refl

pub trace_missing : {A : Type 0} (p : ℕ) (k : Bool → Reading A) (s : List ℕ) (r : Reader) → symbol_of s r p ≡ missing → trace (ask p k) s r ≡ []
unfolding trace
trace_missing p k s r e = rw (e, trace)

pub trace_got : {A : Type 0} (p : ℕ) (k : Bool → Reading A) (s : List ℕ) (r : Reader) (b : Bool) (r2 : Reader) → symbol_of s r p ≡ given b r2 → trace (ask p k) s r ≡ record { prob = p; bit = b } ∷ trace (k b) s r2
unfolding trace
trace_got p k s r b r2 e = rw (e, trace)

-- ---- one part after another
module _ {A B : Type 0} (f : A → Reading B) (s : List ℕ) where
  pub trace_then : (m : Reading A) (r : Reader) {a : A} {r2 : Reader} → run m s r ≡ given a r2 → trace (m >>= f) s r ≡ trace m s r ++ trace (f a) s r2
  unfolding run trace
  trace_then (done x) r {a} {r2} e = let g : x ≡ a = cc in let h : r ≡ r2 = cc in rw (g, h)
  trace_then (ask p k) r {a} {r2} e = go (λ b q. trace_then (k b) q) (symbol_of s r p) refl
    where
      go : ((b : Bool) (q : Reader) → run (k b) s q ≡ given a r2 → trace (k b >>= f) s q ≡ trace (k b) s q ++ trace (f a) s r2) → (x : Given Bool) → symbol_of s r p ≡ x → trace (ask p (λ b. k b >>= f)) s r ≡ trace (ask p k) s r ++ trace (f a) s r2
      go ih missing g = absurd (never_both e (run_missing p k s r g))
      go ih (given b q) g =
          trace_got p (λ b. k b >>= f) s r b q g
          ∙ ap (λ (l : List CodedSymbol). record { prob = p; bit = b } ∷ l) (ih b q (sym (run_got p k s r b q g) ∙ e))
          ∙ ap (λ (l : List CodedSymbol). l ++ trace (f a) s r2) (sym (trace_got p k s r b q g))

  pub trace_stops : (m : Reading A) (r : Reader) → run m s r ≡ missing → trace (m >>= f) s r ≡ trace m s r
  unfolding run trace
  trace_stops (done x) r e = absurd (never_both refl e)
  trace_stops (ask p k) r e = go (λ b q. trace_stops (k b) q) (symbol_of s r p) refl
    where
      go : ((b : Bool) (q : Reader) → run (k b) s q ≡ missing → trace (k b >>= f) s q ≡ trace (k b) s q) → (x : Given Bool) → symbol_of s r p ≡ x → trace (ask p (λ b. k b >>= f)) s r ≡ trace (ask p k) s r
      go ih missing g = trace_missing p (λ b. k b >>= f) s r g ∙ sym (trace_missing p k s r g)
      go ih (given b q) g =
          trace_got p (λ b. k b >>= f) s r b q g
          ∙ ap (λ (l : List CodedSymbol). record { prob = p; bit = b } ∷ l) (ih b q (sym (run_got p k s r b q g) ∙ e))
          ∙ sym (trace_got p k s r b q g)

-- ---- M-103: no run reads more symbols than the grammar's depth
pub trace_within : {A : Type 0} {P : A → Type 0} {n : ℕ} {m : Reading A} (s : List ℕ) (r : Reader) → Within P n m → length (trace m s r) ≤ n
trace_within s r (ends {a} h) = rw (trace_done a s r) (omega arith)
trace_within s r (asks {n} {p} {k} h f) = go (λ b q. trace_within s q (f b)) (symbol_of s r p) refl
  where
    go : ((b : Bool) (q : Reader) → length (trace (k b) s q) ≤ n) → (x : Given Bool) → symbol_of s r p ≡ x → length (trace (ask p k) s r) ≤ suc n
    go ih missing g = rw (trace_missing p k s r g) (omega arith)
    go ih (given b q) g = rw (trace_got p k s r b q g) (omega (arith, ih b q))

-- ---- the counts alone: what a proof of counting code cites
pub count_done : {A : Type 0} (a : A) (s : List ℕ) (r : Reader) → count (done a) s r ≡ 0
unfolding count
count_done a s r = rw (trace_done a s r)

pub count_missing : {A : Type 0} (p : ℕ) (k : Bool → Reading A) (s : List ℕ) (r : Reader) → symbol_of s r p ≡ missing → count (ask p k) s r ≡ 0
unfolding count
count_missing p k s r e = rw (trace_missing p k s r e)

pub count_got : {A : Type 0} (p : ℕ) (k : Bool → Reading A) (s : List ℕ) (r : Reader) (b : Bool) (r2 : Reader) → symbol_of s r p ≡ given b r2 → count (ask p k) s r ≡ suc (count (k b) s r2)
unfolding count
count_got p k s r b r2 e = rw (trace_got p k s r b r2 e)

module _ {A B : Type 0} (f : A → Reading B) (s : List ℕ) where
  pub count_then : (m : Reading A) (r : Reader) {a : A} {r2 : Reader} → run m s r ≡ given a r2 → count (m >>= f) s r ≡ count m s r + count (f a) s r2
  unfolding count
  count_then m r {a} {r2} e = ap length (trace_then f s m r e) ∙ length-append (trace m s r) (trace (f a) s r2)

  pub count_stops : (m : Reading A) (r : Reader) → run m s r ≡ missing → count (m >>= f) s r ≡ count m s r
  unfolding count
  count_stops m r e = ap length (trace_stops f s m r e)

pub count_within : {A : Type 0} {P : A → Type 0} {n : ℕ} {m : Reading A} (s : List ℕ) (r : Reader) → Within P n m → count m s r ≤ n
unfolding count
count_within s r h = trace_within s r h

-- ---- a probability that a grammar asks is a byte
pub data Each (P : CodedSymbol → Type 0) : List CodedSymbol → Type 0 where
  nil : Each P []
  cons : {q : CodedSymbol} {qs : List CodedSymbol} → P q → Each P qs → Each P (q ∷ qs)

abbrev pub Byte : CodedSymbol → Type 0
Byte q = q.prob < 256

pub each_append : {P : CodedSymbol → Type 0} {xs ys : List CodedSymbol} → Each P xs → Each P ys → Each P (xs ++ ys)
each_append nil h = h
each_append (cons p g) h = cons p (each_append g h)

pub trace_bytes : {A : Type 0} {P : A → Type 0} {n : ℕ} {m : Reading A} (s : List ℕ) (r : Reader) → Within P n m → Each Byte (trace m s r)
trace_bytes s r (ends {a} h) = rw (trace_done a s r) nil
trace_bytes s r (asks {n} {p} {k} h f) = go (λ b q. trace_bytes s q (f b)) (symbol_of s r p) refl
  where
    go : ((b : Bool) (q : Reader) → Each Byte (trace (k b) s q)) → (x : Given Bool) → symbol_of s r p ≡ x → Each Byte (trace (ask p k) s r)
    go ih missing g = rw (trace_missing p k s r g) nil
    go ih (given b q) g = rw (trace_got p k s r b q g) (cons h (ih b q))

-- ---- M-112: a list that the grammar follows and the reader answers IS the run
pub run_of : {A : Type 0} {m : Reading A} {qs : List CodedSymbol} {s : List ℕ} {r : Reader} {a : A} {r2 : Reader} → Follows m qs a → Answers s r qs r2 → run m s r ≡ given a r2
unfolding run
run_of stop none = refl
run_of {s} {r} (take {p} {k} b f) (more {t} e h) = run_got p k s r b t e ∙ run_of f h

pub trace_of : {A : Type 0} {m : Reading A} {qs : List CodedSymbol} {s : List ℕ} {r : Reader} {a : A} {r2 : Reader} → Follows m qs a → Answers s r qs r2 → trace m s r ≡ qs
unfolding trace
trace_of stop none = refl
trace_of {s} {r} (take {p} {k} b {qs} f) (more {t} e h) = trace_got p k s r b t e ∙ ap (λ (l : List CodedSymbol). record { prob = p; bit = b } ∷ l) (trace_of f h)

-- a run that gives a value follows its trace, and its reader answers it
pub trace_follows : {A : Type 0} (m : Reading A) (s : List ℕ) (r : Reader) {a : A} {r2 : Reader} → run m s r ≡ given a r2 → Follows m (trace m s r) a × Answers s r (trace m s r) r2
unfolding run trace
trace_follows (done x) s r {a} {r2} e = let g : x ≡ a = cc in let h : r ≡ r2 = cc in rw (← g, ← h) (stop, none)
trace_follows (ask p k) s r {a} {r2} e = go (λ b q. trace_follows (k b) s q) (symbol_of s r p) refl
  where
    go : ((b : Bool) (q : Reader) → run (k b) s q ≡ given a r2 → Follows (k b) (trace (k b) s q) a × Answers s q (trace (k b) s q) r2) → (x : Given Bool) → symbol_of s r p ≡ x → Follows (ask p k) (trace (ask p k) s r) a × Answers s r (trace (ask p k) s r) r2
    go ih missing g = absurd (never_both e (run_missing p k s r g))
    go ih (given b q) g =
        let t = ih b q (sym (run_got p k s r b q g) ∙ e) in
        rw (trace_got p k s r b q g) (take b t.0, more g t.1)

-- THE LAW of recoding, for every grammar: any reader, over any bytes, that answers the symbols of a run gives that run's value
module _ {A : Type 0} (m : Reading A) (s : List ℕ) (r : Reader) {a : A} {r2 : Reader} (e : run m s r ≡ given a r2) {s' : List ℕ} {q q2 : Reader} (h : Answers s' q (trace m s r) q2) where
  pub recoded : run m s' q ≡ given a q2
  recoded = run_of (trace_follows m s r e).0 h

  pub retraced : trace m s' q ≡ trace m s r
  retraced = trace_of (trace_follows m s r e).0 h

-- ---- several parts, one after the other in one partition
pub record Parted (s : List ℕ) (r : Reader) (xs ys : List CodedSymbol) (r2 : Reader) : Type 0 where
  pub middle : Reader
  pub before : Answers s r xs middle
  pub after : Answers s middle ys r2

pub answers_part : {s : List ℕ} {r : Reader} (xs : List CodedSymbol) {ys : List CodedSymbol} {r2 : Reader} → Answers s r (xs ++ ys) r2 → Parted s r xs ys r2
answers_part {r} [] h = record { middle = r; before = none; after = h }
answers_part (x ∷ xs) (more e h) = let p = answers_part xs h in record { middle = p.middle; before = more e p.before; after = p.after }
