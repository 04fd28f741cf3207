-- The laws of the small choices.
use Rattle.std.specs.Prelude.{◌+◌, ◌≤◌, ◌<◌, ◌≡◌, ◌&&◌, ◌⊎◌, ◌∷◌, ◌≤ℤ◌}
use Rattle.numbers.specs.Words.{ℕ, zero, suc, add-one, arith, refl, sym, ◌∙◌, ap, Bool, true, false, inl, inr, ⊎_elim, eqb, lit<, lit≤, never, not_so, both_left, both_right, both_true, both_false, eq-eqb, eqb-true, ne_eqb, List, [], length, get_or, ℤ, pos, negsuc, lt_z, In, to_le, lt_parts, Result, Ok, Err}
use Rattle.reader.specs.declared.boolean.Reader.{Reader}
use Rattle.reader.specs.ReadingLaws.{Bytes, Valid}
use Rattle.header.specs.Header.{entry_count, entry, outside, fine_to, entries_of, header_of}
use Rattle.header.specs.HeaderLaws.{entries_each, fine_none, fine_next, entries_all, header_fine_lem}
use Rattle.lent.specs.Memory.{packed, old, sizes_fine_of}
use Rattle.lent.specs.declared.sizes.Sizes.{Sizes}
use Rattle.lent.specs.SizesLaws.{sizes_fact, sizes_test}
use Rattle.tile.specs.Tile.{token_contents, readers_of, sides_of, count_of, partitions_of, Sides, Counted, Cut}
use Rattle.tile.specs.PartitionsLaws.{readers_valid}
use Rattle.tile.specs.ChecksLaws.{sides_fact, sides_test, count_fact, count_test, partitions_fact, partitions_test}
use Rattle.choices.specs.declared.answer.Refusal.{Refusal}
use Rattle.choices.specs.Choices.{Call, call_in, Bounded, Lengths, lengths_of, failed, checks_of, refusal_of, named, refusal_number_of, told_by, checked_of, beside_of}
use Rattle.modes.specs.declared.contexts.Context.{Context}
use Rattle.modes.specs.Modes.{empty_context}

-- ==== What an answer of the checks says: 0, every fact that the decoder rests on; k, that check k failed and none before it.

-- ---- 3: the facts are crate header's `entries_each`
not_less : (a b : ℤ) → b ≤ℤ a → lt_z a b ≡ false
not_less a b h = sym (not_so (lt_z a b) (λ e. omega (arith, lt_parts a b e, to_le h)))

within : (z : ℤ) → In (negsuc 254) (pos 255) z → outside z ≡ false
within z i = rw (not_less z (negsuc 254) i.low, not_less (pos 255) z i.high)

entries_test : (h : List ℤ) → Bounded h → entries_of h ≡ true
entries_test h b = sym (entries_all h (length h) refl (upto (length h)))
  where
    upto : (i : ℕ) → fine_to h i ≡ true
    upto zero = fine_none h
    upto (suc i) = rw add-one at (fine_next h i (upto i) (within (entry h i) (b.at i)))

-- ---- 4
module _ (t : Call) (z : Sizes) where
  lengths_fact : lengths_of t z ≡ true → Lengths t z
  unfolding lengths_of
  lengths_fact e =
      let b : Bool = sizes_fine_of t.form t.tile.width t.tile.height z in
      record { sizes = sizes_fact _ _ _ z (both_left b _ e); header = eqb-true _ _ (both_right b _ e) }

  lengths_test : Sides t.tile.width t.tile.height → Lengths t z → lengths_of t z ≡ true
  unfolding lengths_of
  lengths_test a s = both_true (sizes_test _ _ _ z a s.sizes) (eq-eqb _ _ s.header)

  -- as the code tries them
  pub lengths_sizes : sizes_fine_of t.form t.tile.width t.tile.height z ≡ false → lengths_of t z ≡ false
  unfolding lengths_of
  lengths_sizes e = rw e

  pub lengths_header : (length t.header ≡ entry_count → ⊥) → lengths_of t z ≡ false
  unfolding lengths_of
  lengths_header n = both_false (sizes_fine_of t.form t.tile.width t.tile.height z) (ne_eqb _ _ n)

  pub lengths_both : sizes_fine_of t.form t.tile.width t.tile.height z ≡ true → length t.header ≡ entry_count → lengths_of t z ≡ true
  unfolding lengths_of
  lengths_both e h = both_true e (eq-eqb _ _ h)

-- ---- the number of the first test that fails
failed_past : (n : ℕ) (ts : List Bool) → (failed n ts ≡ 0) ⊎ (n ≤ failed n ts)
unfolding failed
failed_past n [] = inl refl
failed_past n (true ∷ ts) = ⊎_elim inl (λ l. inr (omega arith)) (failed_past (suc n) ts)
failed_past n (false ∷ ts) = inr (omega arith)

failed_below : (n : ℕ) (ts : List Bool) → 1 ≤ n → failed n ts < n + length ts
unfolding failed
failed_below n [] h = omega arith
failed_below n (true ∷ ts) h = omega (arith, failed_below (suc n) ts (omega arith))
failed_below n (false ∷ ts) h = omega arith

all_pass : (n : ℕ) (ts : List Bool) → 1 ≤ n → failed n ts ≡ 0 → (i : ℕ) → get_or ts i true ≡ true
unfolding failed
all_pass n [] h e i = refl
all_pass n (true ∷ ts) h e zero = refl
all_pass n (true ∷ ts) h e (suc i) = all_pass (suc n) ts (omega arith) e i
all_pass n (false ∷ ts) h e i = absurd (omega arith)

-- the test at k fails, and those before it pass
record Fails (ts : List Bool) (k : ℕ) : Type 0 where
  there : get_or ts k true ≡ false
  before : (i : ℕ) → i < k → get_or ts i true ≡ true

earlier : (ts : List Bool) (k : ℕ) → Fails ts k → (i : ℕ) → i < suc k → get_or (true ∷ ts) i true ≡ true
earlier ts k f zero l = refl
earlier ts k f (suc i) l = f.before i (omega arith)

one_fails : (n : ℕ) (ts : List Bool) (k : ℕ) → 1 ≤ n → failed n ts ≡ n + k → Fails ts k
unfolding failed
one_fails n [] k h e = absurd (omega arith)
one_fails n (false ∷ ts) zero h e = record { there = refl; before = λ i l. absurd (omega arith) }
one_fails n (false ∷ ts) (suc k) h e = absurd (omega arith)
one_fails n (true ∷ ts) zero h e = absurd (⊎_elim (λ z. omega arith) (λ l. omega arith) (failed_past (suc n) ts))
one_fails n (true ∷ ts) (suc k) h e =
    let f = one_fails (suc n) ts k (omega arith) (omega arith) in
    record { there = f.there; before = earlier ts k f }

-- ---- THE LAWS for callers
module _ (t : Call) (z : Sizes) where
  pub refusal_most : refusal_of t z ≤ 5
  unfolding refusal_of
  refusal_most = omega (arith, failed_below 1 (checks_of t z) (lit≤ tt))

  -- as the code makes them, one after the other
  pub stop_side : sides_of t.tile.width t.tile.height ≡ false → 1 ≡ refusal_of t z
  unfolding refusal_of failed
  stop_side a = rw (a, refusal_of, failed)

  module _ (a : sides_of t.tile.width t.tile.height ≡ true) where
    pub stop_count : count_of t.tile.count ≡ false → 2 ≡ refusal_of t z
    unfolding refusal_of failed
    stop_count b = rw (a, b, refusal_of, failed)

    module _ (b : count_of t.tile.count ≡ true) where
      pub stop_entries : entries_of t.header ≡ false → 3 ≡ refusal_of t z
      unfolding refusal_of failed
      stop_entries c = rw (a, b, c, refusal_of, failed)

      module _ (c : entries_of t.header ≡ true) where
        pub stop_lengths : lengths_of t z ≡ false → 4 ≡ refusal_of t z
        unfolding refusal_of failed
        stop_lengths d = rw (a, b, c, d, refusal_of, failed)

        pub stop_partitions : lengths_of t z ≡ true → partitions_of t.bytes t.tile ≡ false → 5 ≡ refusal_of t z
        unfolding refusal_of failed
        stop_partitions d e = rw (a, b, c, d, e, refusal_of, failed)

        pub stop_none : lengths_of t z ≡ true → partitions_of t.bytes t.tile ≡ true → 0 ≡ refusal_of t z
        unfolding refusal_of failed
        stop_none d e = rw (a, b, c, d, e, refusal_of, failed)

  passes : refusal_of t z ≡ 0 → (i : ℕ) → get_or (checks_of t z) i true ≡ true
  unfolding refusal_of
  passes e = all_pass 1 (checks_of t z) (lit≤ tt) e

  fails : (k : ℕ) → refusal_of t z ≡ 1 + k → Fails (checks_of t z) k
  unfolding refusal_of
  fails k e = one_fails 1 (checks_of t z) k (lit≤ tt) e

  -- 0: every fact holds
  module _ (e : refusal_of t z ≡ 0) where
    pub fine_side : Sides t.tile.width t.tile.height
    fine_side = sides_fact _ _ (passes e 0)

    pub fine_count : Counted t.tile.count
    fine_count = count_fact _ (passes e 1)

    pub fine_entries : Bounded t.header
    fine_entries = entries_each _ (passes e 2)

    pub fine_lengths : Lengths t z
    fine_lengths = lengths_fact _ _ (passes e 3)

    pub fine_header : header_of t.header ≡ true
    fine_header = header_fine_lem t.header fine_lengths.header (passes e 2)

    pub fine_partitions : Cut t.bytes t.tile
    fine_partitions = partitions_fact _ _ (passes e 4)

    -- and the reader that `openers` gives for a token partition is in range over it
    pub fine_readers : Bytes t.bytes → (i : ℕ) (d : Reader) → i < t.tile.count → Valid (token_contents t.bytes t.tile i) (get_or (readers_of t.bytes t.tile) i d)
    fine_readers y i d l = readers_valid t.bytes t.tile i d y (omega (arith, fine_count.most)) l

  -- and only then
  pub refusal_none : Sides t.tile.width t.tile.height → Counted t.tile.count → Bounded t.header → Lengths t z → Cut t.bytes t.tile → 0 ≡ refusal_of t z
  refusal_none a b c d e =
      stop_none (sides_test _ _ a) (count_test _ b) (entries_test _ c) (lengths_test _ _ a d) (partitions_test _ _ e)

  -- k: check k failed, and none before it
  pub refused_side : refusal_of t z ≡ 1 → Sides t.tile.width t.tile.height → ⊥
  refused_side e s = never (sides_test _ _ s) (fails 0 e).there

  pub refused_count : refusal_of t z ≡ 2 → Sides t.tile.width t.tile.height × (Counted t.tile.count → ⊥)
  refused_count e =
      let f = fails 1 e in
      (sides_fact _ _ (f.before 0 (lit< tt)), λ s. never (count_test _ s) f.there)

  pub refused_entries : refusal_of t z ≡ 3 → Sides t.tile.width t.tile.height × Counted t.tile.count × (Bounded t.header → ⊥)
  refused_entries e =
      let f = fails 2 e in
      (sides_fact _ _ (f.before 0 (lit< tt)), count_fact _ (f.before 1 (lit< tt)), λ s. never (entries_test _ s) f.there)

  pub refused_lengths : refusal_of t z ≡ 4 → Sides t.tile.width t.tile.height × Counted t.tile.count × Bounded t.header × (Lengths t z → ⊥)
  refused_lengths e =
      let f = fails 3 e in
      (sides_fact _ _ (f.before 0 (lit< tt)), count_fact _ (f.before 1 (lit< tt)), entries_each _ (f.before 2 (lit< tt)), λ s. never (lengths_test _ _ (sides_fact _ _ (f.before 0 (lit< tt))) s) f.there)

  pub refused_partitions : refusal_of t z ≡ 5 → Sides t.tile.width t.tile.height × Counted t.tile.count × Bounded t.header × Lengths t z × (Cut t.bytes t.tile → ⊥)
  refused_partitions e =
      let f = fails 4 e in
      (sides_fact _ _ (f.before 0 (lit< tt)), count_fact _ (f.before 1 (lit< tt)), entries_each _ (f.before 2 (lit< tt)), lengths_fact _ _ (f.before 3 (lit< tt)), λ s. never (partitions_test _ _ s) f.there)

-- ---- a check by its name
pub named_number : (n : ℕ) → (n ≡ 0 → ⊥) → n ≤ 5 → refusal_number_of (named n) ≡ n
named_number zero h l = absurd (h refl)
named_number (suc zero) h l = refl
named_number (suc (suc zero)) h l = refl
named_number (suc (suc (suc zero))) h l = refl
named_number (suc (suc (suc (suc zero)))) h l = refl
named_number (suc (suc (suc (suc (suc zero))))) h l = refl
named_number (suc (suc (suc (suc (suc (suc n)))))) h l = absurd (omega arith)

-- what is told of the number n
told_refused : (n : ℕ) {r : Refusal} → Err r ≡ told_by n → (n ≡ 0 → ⊥) × (r ≡ named n)
told_refused zero e = cc
told_refused (suc n) e = (λ z. omega arith, cc)

told_passed : (n : ℕ) {u : Unit {0}} → Ok u ≡ told_by n → n ≡ 0
told_passed zero e = refl
told_passed (suc n) e = cc

-- as the code finds it
module _ (t : Call) (z : Sizes) where
  pub refusal_named : (refusal_of t z ≡ 0 → ⊥) → refusal_number_of (named (refusal_of t z)) ≡ refusal_of t z
  refusal_named h = named_number (refusal_of t z) h (refusal_most t z)

  pub checks_passed : {u : Unit {0}} → Ok u ≡ checked_of t z → refusal_of t z ≡ 0
  checks_passed e = told_passed (refusal_of t z) e

  module _ {r : Refusal} (e : Err r ≡ checked_of t z) where
    pub check_fails : refusal_of t z ≡ 0 → ⊥
    check_fails = (told_refused (refusal_of t z) e).0

    pub check_named : r ≡ named (refusal_of t z)
    check_named = (told_refused (refusal_of t z) e).1

    pub check_number : refusal_number_of r ≡ refusal_of t z
    check_number = ap refusal_number_of check_named ∙ refusal_named check_fails

-- ---- the two forms of column memory: where check 4 says the same, all checks do
pub refusal_forms : (c : Call) (z s : Sizes) → sizes_fine_of packed c.tile.width c.tile.height z ≡ sizes_fine_of old c.tile.width c.tile.height s → refusal_of (call_in packed c) z ≡ refusal_of (call_in old c) s
unfolding refusal_of lengths_of
refusal_forms c z s e = λ i. failed 1
    (sides_of c.tile.width c.tile.height ∷ count_of c.tile.count ∷ entries_of c.header ∷ (e i && eqb (length c.header) entry_count) ∷ partitions_of c.bytes c.tile ∷ [])

-- ==== The laws of what lies to the left.

module _ (column : ℕ) (left : Context) where
  pub beside_none : column ≡ 0 → beside_of column left ≡ empty_context
  unfolding beside_of
  beside_none e = rw (eq-eqb _ _ e, beside_of)

  pub beside_left : (column ≡ 0 → ⊥) → left ≡ beside_of column left
  unfolding beside_of
  beside_left e = rw (ne_eqb _ _ e, beside_of)
