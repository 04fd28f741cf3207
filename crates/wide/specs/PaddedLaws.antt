-- The laws of runs over padded bytes. THE LAW is `padded_run`: where such a run ends inside the partition, the run that refuses gives the same.
use Rattle.std.specs.Prelude.{◌+◌, ◌-◌, ◌*◌, ◌≤◌, ◌<◌, ◌≡◌}
use Rattle.numbers.specs.Words.{ℕ, zero, suc, arith, refl, ◌∙◌, Bool, true, false, ⊎_elim, lt_or, eq_or, le-leb, List, length, get_or}
use Rattle.reader.specs.declared.boolean.Reader.{Reader}
use Rattle.reader.specs.Reading.{given, split_of, chosen_of, shifted, loaded, grow, decided_of, symbol_of, Reading, done, ask, ◌>>=◌, run, Within, ends, asks}
use Rattle.reader.specs.ReadingLaws.{grow_stop, grow_shift, grow_load, split_is, decided_fact, symbol_is, run_done, run_got}
use Rattle.wide.specs.Padded.{padded_bit, padded_next, run_padded, passed}

-- ---- the bits passed never fall
pub record Later (r q : Reader) : Type 0 where
  pub placed : 2 ≤ q.at
  pub later : passed r ≤ passed q

then_later : {q : Reader} (r m : Reader) → passed r ≤ passed m → Later m q → Later r q
then_later r m h l = record { placed = l.placed; later = omega (arith, l.later) }

grow_later : (n : ℕ) (s : List ℕ) (r : Reader) → 2 ≤ r.at → Later r (grow n s r)
unfolding grow
grow_later zero s r h = record { placed = h; later = omega arith }
grow_later (suc n) s r h =
    ⊎_elim
    (λ l. ⊎_elim
    (λ e. rw (grow_load n s r l e) (then_later r (loaded (get_or s r.at 0) r) (omega arith) (grow_later n s (loaded (get_or s r.at 0) r) (omega arith))))
    (λ e. rw (grow_shift n s r l e) (then_later r (shifted r) (omega arith) (grow_later n s (shifted r) h)))
    (eq_or r.shifts 7))
    (λ g. rw (grow_stop (suc n) s r g) (record { placed = h; later = omega arith }))
    (lt_or r.range 128)

part_later : (n : ℕ) (s : List ℕ) (r : Reader) (x : ℕ) (b : Bool) → 2 ≤ r.at → Later r (grow n s (chosen_of r x b))
part_later n s r x true h = let l = grow_later n s (chosen_of r x true) h in record { placed = l.placed; later = l.later }
part_later n s r x false h = let l = grow_later n s (chosen_of r x false) h in record { placed = l.placed; later = l.later }

pub padded_later : (s : List ℕ) (r : Reader) (p : ℕ) → 2 ≤ r.at → Later r (padded_next s r p)
unfolding padded_next
padded_later s r p h = part_later 7 s r (split_of r.range p) (padded_bit r p) h

-- ---- one question, and one part after another
pub padded_then : {A B : Type 0} (m : Reading A) (f : A → Reading B) (s : List ℕ) (r : Reader) → run_padded (m >>= f) s r ≡ run_padded (f (run_padded m s r).0) s (run_padded m s r).1
unfolding run_padded
padded_then (done a) f s r = refl
padded_then (ask p k) f s r = padded_then (k (padded_bit r p)) f s (padded_next s r p)

-- it gives what every path of the grammar gives
pub padded_within : {A : Type 0} {P : A → Type 0} {n : ℕ} {g : Reading A} (s : List ℕ) (r : Reader) → Within P n g → P (run_padded g s r).0
unfolding run_padded
padded_within s r (ends h) = h
padded_within s r (asks {p} h f) = padded_within s (padded_next s r p) (f (padded_bit r p))

pub run_later : {A : Type 0} (g : Reading A) (s : List ℕ) (r : Reader) → 2 ≤ r.at → Later r (run_padded g s r).1
unfolding run_padded
run_later (done a) s r h = record { placed = h; later = omega arith }
run_later (ask p k) s r h =
    let l = padded_later s r p h in
    then_later r (padded_next s r p) l.later (run_later (k (padded_bit r p)) s (padded_next s r p) l.placed)

-- a symbol that is decided is the padded one
pub padded_symbol : (s : List ℕ) (r : Reader) (p : ℕ) → decided_of s r ≡ true → symbol_of s r p ≡ given (padded_bit r p) (padded_next s r p)
unfolding padded_bit padded_next
padded_symbol s r p d = symbol_is s r p _ d refl _ refl

-- it is decided where its eight bits lie in the partition
decided_so : (s : List ℕ) (r : Reader) → passed r + 8 ≤ 8 * length s → decided_of s r ≡ true
unfolding decided_of
decided_so s r h = le-leb (8 * (r.at - 2) + r.shifts + 8) (8 * length s) h

-- THE LAW: a padded run whose end leaves eight bits in the partition asked for nothing past it
pub padded_run : {A : Type 0} (g : Reading A) (s : List ℕ) (r : Reader) → 2 ≤ r.at → passed (run_padded g s r).1 + 8 ≤ 8 * length s → run g s r ≡ given (run_padded g s r).0 (run_padded g s r).1
unfolding run_padded
padded_run (done a) s r h e = run_done a s r
padded_run (ask p k) s r h e =
    let l = padded_later s r p h in
    let m = run_later (k (padded_bit r p)) s (padded_next s r p) l.placed in
    let d : passed r + 8 ≤ 8 * length s = omega (arith, l.later, m.later) in
    run_got p k s r _ _ (padded_symbol s r p (decided_so s r d))
    ∙ padded_run (k (padded_bit r p)) s (padded_next s r p) l.placed e

-- the same by the test that the code has
pub padded_inside : {A : Type 0} (g : Reading A) (s : List ℕ) (r : Reader) → 2 ≤ r.at → decided_of s (run_padded g s r).1 ≡ true → run g s r ≡ given (run_padded g s r).0 (run_padded g s r).1
padded_inside g s r h e = padded_run g s r h (decided_fact s (run_padded g s r).1 e)

-- ---- after a symbol the range is below 255
twice : (n : ℕ) → n < 128 → n * 2 < 255
twice n l = omega arith

grow_range : (n : ℕ) (s : List ℕ) (r : Reader) → r.range < 255 → (r.range ≤ (grow n s r).range) × ((grow n s r).range < 255)
unfolding grow
grow_range zero s r h = (omega arith, h)
grow_range (suc n) s r h =
    ⊎_elim
    (λ l. ⊎_elim
    (λ e. let i = grow_range n s (loaded (get_or s r.at 0) r) (twice r.range l) in rw (grow_load n s r l e) (omega (arith, i.0), i.1))
    (λ e. let i = grow_range n s (shifted r) (twice r.range l) in rw (grow_shift n s r l e) (omega (arith, i.0), i.1))
    (eq_or r.shifts 7))
    (λ g. rw (grow_stop (suc n) s r g) (omega arith, h))
    (lt_or r.range 128)

grow_two : (n : ℕ) (s : List ℕ) (r : Reader) → 1 ≤ r.range → r.range < 255 → 2 ≤ (grow (suc n) s r).range
grow_two n s r p h =
    ⊎_elim
    (λ l. ⊎_elim
    (λ e. let i = grow_range n s (loaded (get_or s r.at 0) r) (twice r.range l) in rw (grow_load n s r l e) (omega (arith, i.0)))
    (λ e. let i = grow_range n s (shifted r) (twice r.range l) in rw (grow_shift n s r l e) (omega (arith, i.0)))
    (eq_or r.shifts 7))
    (λ g. rw (grow_stop (suc n) s r g) (omega arith))
    (lt_or r.range 128)

pub record Fresh (r : Reader) : Type 0 where
  pub low : 2 ≤ r.range
  pub high : r.range < 255

pub fresh_next : (s : List ℕ) (r : Reader) (p : ℕ) → p < 256 → 2 ≤ r.range → r.range < 256 → Fresh (padded_next s r p)
unfolding padded_next
fresh_next s r p h l m = go (padded_bit r p)
  where
    go : (b : Bool) → Fresh (grow 7 s (chosen_of r (split_of r.range p) b))
    go true =
        let i = split_is r.range p l h in
        record { low = grow_two 6 s (chosen_of r (split_of r.range p) true) (omega (arith, i.1, i.2)) (omega (arith, i.1, i.2)); high = (grow_range 7 s (chosen_of r (split_of r.range p) true) (omega (arith, i.1, i.2))).1 }
    go false =
        let i = split_is r.range p l h in
        record { low = grow_two 6 s (chosen_of r (split_of r.range p) false) (omega (arith, i.1, i.2)) (omega (arith, i.1, i.2)); high = (grow_range 7 s (chosen_of r (split_of r.range p) false) (omega (arith, i.1, i.2))).1 }

-- and stays so
pub fresh_run : {A : Type 0} {P : A → Type 0} {n : ℕ} {g : Reading A} (s : List ℕ) (r : Reader) → Within P n g → Fresh r → Fresh (run_padded g s r).1
unfolding run_padded
fresh_run s r (ends h) f = f
fresh_run s r (asks {p} h k) f = fresh_run s (padded_next s r p) (k (padded_bit r p)) (fresh_next s r p h f.low (omega (arith, f.high)))
