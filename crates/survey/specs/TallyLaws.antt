-- The laws of counting.
use Rattle.std.specs.Prelude.{◌+◌, ◌-◌, ◌*◌, ◌≤◌, ◌<◌, ◌≡◌, ◌⊎◌, ◌∷◌, ◌++◌}
use Rattle.numbers.specs.Words.{ℕ, zero, suc, add-one, zero-add, ℕ_discrete, arith, refl, sym, ◌∙◌, ap, subst, Bool, true, false, inl, inr, lt_or, eq_or, eq-eqb, le-ltb, lt-ltb, ne_eqb, bit_of, List, [], length, get_or, set, replicate, get_or-append, length-append, length-set, ext_get_or, get_or-append-add, get_or-set_other, get_or-set_same, set_out, build, length_build, get_or_build, get_or_constant}
use Rattle.lent.specs.declared.macroblocks.ModeRecord.{ModeRecord}
use Rattle.lent.specs.declared.macroblocks.StrengthRecord.{StrengthRecord}
use Rattle.lent.specs.Memory.{mode_found, strength_found}
use Rattle.macroblock.specs.declared.arguments.SymbolCounts.{SymbolCounts}
use Rattle.survey.specs.Tally.{counted, smalls_to, subs_counted, five_counted, record_counted, block_counted, blocks_to, Roomy}
use Rattle.survey.specs.Survey.{sum_to, same, how_many, segment_at, small_at, sub_mode_at, luma_of, luma_at, chroma_at, skip_at, inside_at, sub_blocks, sub_blocks_to, tallied_of}

-- ---- one more
module _ (l : List ℕ) (table rows x : ℕ) where
  pub counted_at : x < rows → set l (table + x) (get_or l (table + x) 0 + 1) ≡ counted l table rows x
  unfolding counted
  counted_at h = rw (lt-ltb x rows h, counted)

  pub counted_off : rows ≤ x → l ≡ counted l table rows x
  unfolding counted
  counted_off h = rw (le-ltb x rows h, counted)

  pub counted_long : length (counted l table rows x) ≡ length l
  counted_long = elim (lt_or x rows) [
    | inl h ↦ rw (← counted_at h) (length-set l (table + x) (get_or l (table + x) 0 + 1))
    | inr h ↦ ap length (sym (counted_off h))
  ]

pub same_is : (x : ℕ) → same x x ≡ 1
unfolding same
same_is x = rw (eq-eqb x x refl, same)

pub same_not : (x y : ℕ) → (x ≡ y → ⊥) → same x y ≡ 0
unfolding same
same_not x y n = rw (ne_eqb x y n, same)

-- in its own table at x, and nowhere else
pub counted_in : (l : List ℕ) (table rows x y : ℕ) → y < rows → table + rows ≤ length l → get_or (counted l table rows x) (table + y) 0 ≡ get_or l (table + y) 0 + same x y
counted_in l table rows x y h g = go (lt_or x rows) (eq_or x y)
  where
    v : ℕ
    v = get_or l (table + x) 0 + 1

    none : (x ≡ y → ⊥) → get_or l (table + y) 0 ≡ get_or l (table + y) 0 + same x y
    none n = let z : same x y ≡ 0 = same_not x y n in omega (arith, z)

    go : (x < rows) ⊎ (rows ≤ x) → (x ≡ y) ⊎ (x ≡ y → ⊥) → get_or (counted l table rows x) (table + y) 0 ≡ get_or l (table + y) 0 + same x y
    go (inr k) d = ap (λ (l : List ℕ). get_or l (table + y) 0) (sym (counted_off l table rows x k)) ∙ none (λ e. omega arith)
    go (inl k) (inr n) = ap (λ (l : List ℕ). get_or l (table + y) 0) (sym (counted_at l table rows x k)) ∙ get_or-set_other l (table + x) (table + y) v 0 (λ e. n (omega arith)) ∙ none n
    go (inl k) (inl e) =
        ap (λ (l : List ℕ). get_or l (table + y) 0) (sym (counted_at l table rows x k))
        ∙ ap (λ (y : ℕ). get_or (set l (table + x) v) (table + y) 0) (sym e)
        ∙ get_or-set_same l (table + x) v 0 (omega arith)
        ∙ (λ i. get_or l (table + e i) 0 + (sym (same_is x) ∙ ap (same x) e) i)

pub counted_beside : (l : List ℕ) (table rows x i : ℕ) → (i < table) ⊎ (table + rows ≤ i) → get_or (counted l table rows x) i 0 ≡ get_or l i 0
counted_beside l table rows x i o = elim (lt_or x rows) [
  | inr k ↦ ap (λ (l : List ℕ). get_or l i 0) (sym (counted_off l table rows x k))
  | inl k ↦ ap (λ (l : List ℕ). get_or l i 0) (sym (counted_at l table rows x k)) ∙ get_or-set_other l (table + x) i (get_or l (table + x) 0 + 1) 0 (apart o k)
]
  where
    apart : (i < table) ⊎ (table + rows ≤ i) → x < rows → i ≡ table + x → ⊥
    apart (inl a) k e = omega arith
    apart (inr a) k e = omega arith

-- ---- counts that one more can be added to
pub roomy_more : (l : List ℕ) (n m : ℕ) → Roomy l n → n ≤ m → Roomy l m
roomy_more l n m r h = record { long = r.long; below = λ i. omega (arith, r.below i) }

set_below : (l : List ℕ) (n p : ℕ) → ((i : ℕ) → get_or l i 0 ≤ n) → (i : ℕ) → get_or (set l p (get_or l p 0 + 1)) i 0 ≤ n + 1
set_below l n p b i = elim (ℕ_discrete i p) [
  | yes e ↦ elim (lt_or p (length l)) [
    | inl h ↦ rw (e, get_or-set_same l p (get_or l p 0 + 1) 0 h) (omega (arith, b p))
    | inr h ↦ rw (set_out l p (get_or l p 0 + 1) h) (omega (arith, b i))
  ]
  | no e ↦ rw (get_or-set_other l p i (get_or l p 0 + 1) 0 e) (omega (arith, b i))
]

pub roomy_counted : (l : List ℕ) (n table rows x : ℕ) → Roomy l n → Roomy (counted l table rows x) (n + 1)
roomy_counted l n table rows x r = elim (lt_or x rows) [
  | inl h ↦ rw (← counted_at l table rows x h) (record { long = length-set l (table + x) (get_or l (table + x) 0 + 1) ∙ r.long; below = set_below l n (table + x) r.below })
  | inr h ↦ rw (← counted_off l table rows x h) (roomy_more l n (n + 1) r (omega arith))
]

-- the same for a list that the code has
pub roomy_after : (l k : List ℕ) (n table rows x : ℕ) → k ≡ counted l table rows x → Roomy l n → Roomy k (n + 1)
roomy_after l k n table rows x e r = rw e (roomy_counted l n table rows x r)

-- zeros
pub roomy_zeros : Roomy (replicate 37 0) 0
roomy_zeros = record { long = refl; below = λ i. rw (get_or_constant {A = ℕ} 37 i 0) (omega arith) }

-- ---- luma
pub luma_small : (small : Bool) (mode : ℕ) → small ≡ true → 4 ≡ luma_of small mode
unfolding luma_of
luma_small small mode e = rw (e, luma_of)

pub luma_large : (small : Bool) (mode : ℕ) → small ≡ false → mode ≡ luma_of small mode
unfolding luma_of
luma_large small mode e = rw (e, luma_of)

-- ---- the sub-blocks, as a loop counts them
roomy_smalls : (n : ℕ) (modes l : List ℕ) (b : ℕ) → Roomy l b → Roomy (smalls_to n modes l) (b + n)
unfolding smalls_to
roomy_smalls zero modes l b r = roomy_more l b (b + 0) r (omega arith)
roomy_smalls (suc n) modes l b r = roomy_more _ (b + n + 1) (b + suc n) (roomy_counted (smalls_to n modes l) (b + n) 25 10 (get_or modes n 0) (roomy_smalls n modes l b r)) (omega arith)

pub record Smalling (modes l₀ l : List ℕ) (i : ℕ) : Type 0 where
  pub upto : i ≤ 16
  pub start : Roomy l₀ 999999900
  pub now : l ≡ smalls_to i modes l₀

module _ (modes l₀ : List ℕ) where
  pub smalling_start : Roomy l₀ 999999900 → Smalling modes l₀ l₀ 0
  unfolding smalls_to
  smalling_start r = record { upto = omega arith; start = r; now = refl }

  module _ (l : List ℕ) (i : ℕ) (s : Smalling modes l₀ l i) where
    pub smalling_room : Roomy l 1000000000
    smalling_room = rw s.now (roomy_more (smalls_to i modes l₀) (999999900 + i) 1000000000 (roomy_smalls i modes l₀ 999999900 s.start) (omega (arith, s.upto)))

    pub smalling_next : {k : List ℕ} → k ≡ counted l 25 10 (get_or modes i 0) → i < 16 → Smalling modes l₀ k (i + 1)
    unfolding smalls_to
    smalling_next e h = record { upto = omega arith; start = s.start; now = e ∙ rw (add-one i) (ap (λ (l : List ℕ). counted l 25 10 (get_or modes i 0)) s.now) }

    pub smalling_end : 16 ≤ i → l ≡ smalls_to 16 modes l₀
    smalling_end h = let z : i ≡ 16 = omega (arith, s.upto) in rw z at s.now

-- ---- a macroblock, as the code counts it
subs_small : (small : Bool) (modes l : List ℕ) → small ≡ true → smalls_to 16 modes l ≡ subs_counted small modes l
unfolding subs_counted
subs_small small modes l e = rw (e, subs_counted)

subs_large : (small : Bool) (modes l : List ℕ) → small ≡ false → l ≡ subs_counted small modes l
unfolding subs_counted
subs_large small modes l e = rw (e, subs_counted)

module _ (modes strengths : List ℕ) (k : ℕ) {found : ModeRecord} {told : StrengthRecord} (f : found ≡ mode_found modes k) (t : told ≡ strength_found strengths k)
    (kind skip : ℕ) (e : kind ≡ luma_of found.kinds.small (get_or found.modes 0 0)) (b : skip ≡ bit_of found.kinds.skip) (l l1 l2 l3 l4 l5 : List ℕ)
    (c1 : l1 ≡ counted l 8 4 found.kinds.segment) (c2 : l2 ≡ counted l1 12 5 kind) (c3 : l3 ≡ counted l2 17 4 found.kinds.chroma)
    (c4 : l4 ≡ counted l3 21 2 skip) (c5 : l5 ≡ counted l4 23 2 told.strength.inside) where
  five : l5 ≡ five_counted found told.strength.inside l
  five = c5 ∙ (λ i. counted ((c4 ∙ (λ j. counted ((c3 ∙ (λ k. counted ((c2 ∙ (λ n. counted (c1 n) 12 5 (e n))) k) 17 4 found.kinds.chroma)) j) 21 2 (b j))) i) 23 2 told.strength.inside)

  whole : {r : List ℕ} → r ≡ record_counted found told.strength.inside l → r ≡ block_counted modes strengths k l
  unfolding block_counted
  whole q = q ∙ (λ i. record_counted (f i) (t i).strength.inside l)

  pub block_large : found.kinds.small ≡ false → l5 ≡ block_counted modes strengths k l
  block_large s = whole (five ∙ subs_large found.kinds.small found.modes _ s)

  pub block_small : {l6 : List ℕ} → found.kinds.small ≡ true → l6 ≡ smalls_to 16 found.modes l5 → l6 ≡ block_counted modes strengths k l
  block_small s q = whole (q ∙ ap (smalls_to 16 found.modes) five ∙ subs_small found.kinds.small found.modes _ s)

roomy_subs : (small : Bool) (modes l : List ℕ) (b : ℕ) → Roomy l b → Roomy (subs_counted small modes l) (b + 16)
unfolding subs_counted
roomy_subs true modes l b r = roomy_smalls 16 modes l b r
roomy_subs false modes l b r = roomy_more l b (b + 16) r (omega arith)

roomy_block : (modes strengths : List ℕ) (k : ℕ) (l : List ℕ) (n : ℕ) → Roomy l n → Roomy (block_counted modes strengths k l) (n + 21)
unfolding block_counted
roomy_block modes strengths k l n r =
    roomy_more _ (n + 1 + 1 + 1 + 1 + 1 + 16) (n + 21)
    (roomy_subs _ _ _ _ (roomy_counted _ _ _ _ _ (roomy_counted _ _ _ _ _ (roomy_counted _ _ _ _ _ (roomy_counted _ _ _ _ _ (roomy_counted l n _ _ _ r))))))
    (omega arith)

-- ---- the macroblocks, as a loop counts them
roomy_blocks : (n : ℕ) (modes strengths l : List ℕ) → Roomy l 1 → Roomy (blocks_to n modes strengths l) (1 + 21 * n)
unfolding blocks_to
roomy_blocks zero modes strengths l r = r
roomy_blocks (suc n) modes strengths l r = roomy_more _ (1 + 21 * n + 21) (1 + 21 * suc n) (roomy_block modes strengths n (blocks_to n modes strengths l) (1 + 21 * n) (roomy_blocks n modes strengths l r)) (omega arith)

pub record Blocking (modes strengths : List ℕ) (n : ℕ) (l₀ l : List ℕ) (k : ℕ) : Type 0 where
  pub upto : k ≤ n
  pub most : n ≤ 1048576
  pub start : Roomy l₀ 1
  pub now : l ≡ blocks_to k modes strengths l₀

module _ (modes strengths : List ℕ) (n : ℕ) (l₀ : List ℕ) where
  pub blocking_start : Roomy l₀ 1 → n ≤ 1048576 → Blocking modes strengths n l₀ l₀ 0
  unfolding blocks_to
  blocking_start r h = record { upto = omega arith; most = h; start = r; now = refl }

  module _ (l : List ℕ) (k : ℕ) (g : Blocking modes strengths n l₀ l k) where
    pub blocking_room : Roomy l 999999800
    blocking_room = rw g.now (roomy_more (blocks_to k modes strengths l₀) (1 + 21 * k) 999999800 (roomy_blocks k modes strengths l₀ g.start) (omega (arith, g.most, g.upto)))

    pub blocking_next : {j : List ℕ} → j ≡ block_counted modes strengths k l → k < n → Blocking modes strengths n l₀ j (k + 1)
    unfolding blocks_to
    blocking_next e h = record { upto = omega arith; most = g.most; start = g.start; now = e ∙ rw (add-one k) (ap (block_counted modes strengths k) g.now) }

    pub blocking_end : n ≤ k → l ≡ blocks_to n modes strengths l₀
    blocking_end h = let z : k ≡ n = omega (arith, g.upto) in rw z at g.now

-- ---- the answer alone
pub answered_at : (x : ℕ) → x < 8 → set (replicate 37 0) x 1 ≡ counted (replicate 37 0) 0 8 x
answered_at x h =
    let z : ◌≡◌ {A = ℕ} (get_or (replicate 37 0) (0 + x) 0) 0 = get_or_constant {A = ℕ} 37 (0 + x) 0 in
    sym (λ i. set (replicate 37 0) (zero-add x i) (z i + 1)) ∙ counted_at (replicate 37 0) 0 8 x h

-- ---- what a macroblock counts, place by place
smalls_long : (n : ℕ) (modes l : List ℕ) → length (smalls_to n modes l) ≡ length l
unfolding smalls_to
smalls_long zero modes l = refl
smalls_long (suc n) modes l = counted_long _ 25 10 _ ∙ smalls_long n modes l

smalls_in : (n : ℕ) (modes l : List ℕ) (y : ℕ) → y < 10 → 35 ≤ length l → get_or (smalls_to n modes l) (25 + y) 0 ≡ get_or l (25 + y) 0 + how_many n (λ i. get_or modes i 0) y
unfolding smalls_to sum_to
smalls_in zero modes l y h g = omega arith
smalls_in (suc n) modes l y h g =
    let a : _ = counted_in (smalls_to n modes l) 25 10 (get_or modes n 0) y h (rw (smalls_long n modes l) g) in
    let b : _ = smalls_in n modes l y h g in
    omega (arith, a, b)

smalls_beside : (n : ℕ) (modes l : List ℕ) (i : ℕ) → (i < 25) ⊎ (35 ≤ i) → get_or (smalls_to n modes l) i 0 ≡ get_or l i 0
unfolding smalls_to
smalls_beside zero modes l i o = refl
smalls_beside (suc n) modes l i o = counted_beside (smalls_to n modes l) 25 10 (get_or modes n 0) i o ∙ smalls_beside n modes l i o

subs_long : (small : Bool) (modes l : List ℕ) → length (subs_counted small modes l) ≡ length l
unfolding subs_counted
subs_long true modes l = smalls_long 16 modes l
subs_long false modes l = refl

subs_in : (small : Bool) (modes l : List ℕ) (y : ℕ) → y < 10 → 35 ≤ length l → get_or (subs_counted small modes l) (25 + y) 0 ≡ get_or l (25 + y) 0 + sub_blocks small (λ i. get_or modes i 0) y
unfolding subs_counted sub_blocks
subs_in true modes l y h g = smalls_in 16 modes l y h g
subs_in false modes l y h g = omega arith

subs_beside : (small : Bool) (modes l : List ℕ) (i : ℕ) → (i < 25) ⊎ (35 ≤ i) → get_or (subs_counted small modes l) i 0 ≡ get_or l i 0
unfolding subs_counted
subs_beside true modes l i o = smalls_beside 16 modes l i o
subs_beside false modes l i o = refl

module _ (r : ModeRecord) (inside : ℕ) (l : List ℕ) (e : length l ≡ 37) where
  abbrev l1 : List ℕ
  l1 = counted l 8 4 r.kinds.segment

  abbrev l2 : List ℕ
  l2 = counted l1 12 5 (luma_of r.kinds.small (get_or r.modes 0 0))

  abbrev l3 : List ℕ
  l3 = counted l2 17 4 r.kinds.chroma

  abbrev l4 : List ℕ
  l4 = counted l3 21 2 (bit_of r.kinds.skip)

  abbrev l5 : List ℕ
  l5 = counted l4 23 2 inside

  long1 : length l1 ≡ 37
  long1 = counted_long l 8 4 _ ∙ e

  long2 : length l2 ≡ 37
  long2 = counted_long l1 12 5 _ ∙ long1

  long3 : length l3 ≡ 37
  long3 = counted_long l2 17 4 _ ∙ long2

  long4 : length l4 ≡ 37
  long4 = counted_long l3 21 2 _ ∙ long3

  long5 : length l5 ≡ 37
  long5 = counted_long l4 23 2 _ ∙ long4

  record_long : length (record_counted r inside l) ≡ 37
  record_long = subs_long r.kinds.small r.modes l5 ∙ long5

  -- from below: what later tables leave alone
  from5 : (i : ℕ) → i < 25 → get_or (record_counted r inside l) i 0 ≡ get_or l5 i 0
  from5 i h = subs_beside r.kinds.small r.modes l5 i (inl h)

  from4 : (i : ℕ) → i < 23 → get_or (record_counted r inside l) i 0 ≡ get_or l4 i 0
  from4 i h = from5 i (omega arith) ∙ counted_beside l4 23 2 inside i (inl h)

  from3 : (i : ℕ) → i < 21 → get_or (record_counted r inside l) i 0 ≡ get_or l3 i 0
  from3 i h = from4 i (omega arith) ∙ counted_beside l3 21 2 _ i (inl h)

  from2 : (i : ℕ) → i < 17 → get_or (record_counted r inside l) i 0 ≡ get_or l2 i 0
  from2 i h = from3 i (omega arith) ∙ counted_beside l2 17 4 _ i (inl h)

  from1 : (i : ℕ) → i < 12 → get_or (record_counted r inside l) i 0 ≡ get_or l1 i 0
  from1 i h = from2 i (omega arith) ∙ counted_beside l1 12 5 _ i (inl h)

  -- and from above: what earlier tables left alone
  over1 : (i : ℕ) → 12 ≤ i → get_or l1 i 0 ≡ get_or l i 0
  over1 i h = counted_beside l 8 4 _ i (inr h)

  over2 : (i : ℕ) → 17 ≤ i → get_or l2 i 0 ≡ get_or l i 0
  over2 i h = counted_beside l1 12 5 _ i (inr h) ∙ over1 i (omega arith)

  over3 : (i : ℕ) → 21 ≤ i → get_or l3 i 0 ≡ get_or l i 0
  over3 i h = counted_beside l2 17 4 _ i (inr h) ∙ over2 i (omega arith)

  over4 : (i : ℕ) → 23 ≤ i → get_or l4 i 0 ≡ get_or l i 0
  over4 i h = counted_beside l3 21 2 _ i (inr h) ∙ over3 i (omega arith)

  over5 : (i : ℕ) → 25 ≤ i → get_or l5 i 0 ≡ get_or l i 0
  over5 i h = counted_beside l4 23 2 inside i (inr h) ∙ over4 i (omega arith)

  -- table by table
  record_segment : (y : ℕ) → y < 4 → get_or (record_counted r inside l) (8 + y) 0 ≡ get_or l (8 + y) 0 + same r.kinds.segment y
  record_segment y h = from1 (8 + y) (omega arith) ∙ counted_in l 8 4 _ y h (omega (arith, e))

  record_luma : (y : ℕ) → y < 5 → get_or (record_counted r inside l) (12 + y) 0 ≡ get_or l (12 + y) 0 + same (luma_of r.kinds.small (get_or r.modes 0 0)) y
  record_luma y h = from2 (12 + y) (omega arith) ∙ counted_in l1 12 5 _ y h (omega (arith, long1)) ∙ ap (λ (n : ℕ). n + same (luma_of r.kinds.small (get_or r.modes 0 0)) y) (over1 (12 + y) (omega arith))

  record_chroma : (y : ℕ) → y < 4 → get_or (record_counted r inside l) (17 + y) 0 ≡ get_or l (17 + y) 0 + same r.kinds.chroma y
  record_chroma y h = from3 (17 + y) (omega arith) ∙ counted_in l2 17 4 _ y h (omega (arith, long2)) ∙ ap (λ (n : ℕ). n + same r.kinds.chroma y) (over2 (17 + y) (omega arith))

  record_skip : (y : ℕ) → y < 2 → get_or (record_counted r inside l) (21 + y) 0 ≡ get_or l (21 + y) 0 + same (bit_of r.kinds.skip) y
  record_skip y h = from4 (21 + y) (omega arith) ∙ counted_in l3 21 2 _ y h (omega (arith, long3)) ∙ ap (λ (n : ℕ). n + same (bit_of r.kinds.skip) y) (over3 (21 + y) (omega arith))

  record_inside : (y : ℕ) → y < 2 → get_or (record_counted r inside l) (23 + y) 0 ≡ get_or l (23 + y) 0 + same inside y
  record_inside y h = from5 (23 + y) (omega arith) ∙ counted_in l4 23 2 _ y h (omega (arith, long4)) ∙ ap (λ (n : ℕ). n + same inside y) (over4 (23 + y) (omega arith))

  record_subs : (y : ℕ) → y < 10 → get_or (record_counted r inside l) (25 + y) 0 ≡ get_or l (25 + y) 0 + sub_blocks r.kinds.small (λ i. get_or r.modes i 0) y
  record_subs y h = subs_in r.kinds.small r.modes l5 y h (omega (arith, long5)) ∙ ap (λ (n : ℕ). n + sub_blocks r.kinds.small (λ i. get_or r.modes i 0) y) (over5 (25 + y) (omega arith))

  record_beside : (i : ℕ) → (i < 8) ⊎ (35 ≤ i) → get_or (record_counted r inside l) i 0 ≡ get_or l i 0
  record_beside i (inl h) = from1 i (omega arith) ∙ counted_beside l 8 4 _ i (inl h)
  record_beside i (inr h) = subs_beside r.kinds.small r.modes l5 i (inr h) ∙ over5 i (omega arith)

-- ---- what n macroblocks count
module _ (modes strengths : List ℕ) where
  block_long : (k : ℕ) (l : List ℕ) → length l ≡ 37 → length (block_counted modes strengths k l) ≡ 37
  unfolding block_counted
  block_long k l e = record_long (mode_found modes k) (strength_found strengths k).strength.inside l e

  blocks_long : (n : ℕ) (l : List ℕ) → length l ≡ 37 → length (blocks_to n modes strengths l) ≡ 37
  unfolding blocks_to
  blocks_long zero l e = e
  blocks_long (suc n) l e = block_long n (blocks_to n modes strengths l) (blocks_long n l e)

  -- a place that macroblock k adds g k to
  blocks_in : (i : ℕ) (g : ℕ → ℕ) → ((k : ℕ) (l : List ℕ) → length l ≡ 37 → get_or (block_counted modes strengths k l) i 0 ≡ get_or l i 0 + g k)
      → (n : ℕ) (l : List ℕ) → length l ≡ 37 → get_or (blocks_to n modes strengths l) i 0 ≡ get_or l i 0 + sum_to n g
  unfolding blocks_to sum_to
  blocks_in i g s zero l e = omega arith
  blocks_in i g s (suc n) l e =
      let a : get_or (block_counted modes strengths n (blocks_to n modes strengths l)) i 0 ≡ get_or (blocks_to n modes strengths l) i 0 + g n = s n (blocks_to n modes strengths l) (blocks_long n l e) in
      let b : get_or (blocks_to n modes strengths l) i 0 ≡ get_or l i 0 + sum_to n g = blocks_in i g s n l e in
      omega (arith, a, b)

  blocks_beside : (n : ℕ) (l : List ℕ) (i : ℕ) → length l ≡ 37 → (i < 8) ⊎ (35 ≤ i) → get_or (blocks_to n modes strengths l) i 0 ≡ get_or l i 0
  unfolding blocks_to block_counted
  blocks_beside zero l i e o = refl
  blocks_beside (suc n) l i e o = record_beside (mode_found modes n) (strength_found strengths n).strength.inside (blocks_to n modes strengths l) (blocks_long n l e) i o ∙ blocks_beside n l i e o

-- ---- the tables side by side
module _ (n : ℕ) (f : ℕ → ℕ) (r : List ℕ) where
  here : (y : ℕ) → y < n → get_or (build n f ++ r) y 0 ≡ f y
  here y h = get_or-append (build n f) r 0 y (rw (length_build n f) h) ∙ get_or_build n f y 0 h

  past : (i j : ℕ) → i ≡ n + j → get_or (build n f ++ r) i 0 ≡ get_or r j 0
  past i j e = ap (λ (k : ℕ). get_or (build n f ++ r) k 0) {x = i} {y = length (build n f) + j} (omega (arith, length_build n f)) ∙ get_or-append-add (build n f) r j 0

  longer : (k : ℕ) → length r ≡ k → length (build n f ++ r) ≡ n + k
  longer k e = length-append (build n f) r ∙ (λ i. length_build n f i + e i)

module _ (number n : ℕ) (reads : SymbolCounts) (modes strengths : List ℕ) where
  abbrev t : List ℕ
  t = tallied_of number n reads modes strengths

  pub tallied_long : length t ≡ 37
  unfolding tallied_of
  tallied_long = longer 8 _ _ 29 (longer 4 _ _ 25 (longer 5 _ _ 20 (longer 4 _ _ 16 (longer 2 _ _ 14 (longer 2 _ _ 12 (longer 10 _ _ 2 refl))))))

  pub tallied_answer : (y : ℕ) → y < 8 → get_or t y 0 ≡ same number y
  unfolding tallied_of
  tallied_answer y h = here 8 _ _ y h

  pub tallied_segment : (y : ℕ) → y < 4 → get_or t (8 + y) 0 ≡ how_many n (segment_at modes) y
  unfolding tallied_of
  tallied_segment y h = past 8 _ _ (8 + y) y refl ∙ here 4 _ _ y h

  pub tallied_luma : (y : ℕ) → y < 5 → get_or t (12 + y) 0 ≡ how_many n (luma_at modes) y
  unfolding tallied_of
  tallied_luma y h = past 8 _ _ (12 + y) (4 + y) (omega arith) ∙ past 4 _ _ (4 + y) y refl ∙ here 5 _ _ y h

  pub tallied_chroma : (y : ℕ) → y < 4 → get_or t (17 + y) 0 ≡ how_many n (chroma_at modes) y
  unfolding tallied_of
  tallied_chroma y h = past 8 _ _ (17 + y) (9 + y) (omega arith) ∙ past 4 _ _ (9 + y) (5 + y) (omega arith) ∙ past 5 _ _ (5 + y) y refl ∙ here 4 _ _ y h

  pub tallied_skip : (y : ℕ) → y < 2 → get_or t (21 + y) 0 ≡ how_many n (skip_at modes) y
  unfolding tallied_of
  tallied_skip y h = past 8 _ _ (21 + y) (13 + y) (omega arith) ∙ past 4 _ _ (13 + y) (9 + y) (omega arith) ∙ past 5 _ _ (9 + y) (4 + y) (omega arith) ∙ past 4 _ _ (4 + y) y refl ∙ here 2 _ _ y h

  -- behind the first five
  late : (i j : ℕ) → i ≡ 23 + j → get_or t i 0 ≡ get_or (build 2 (how_many n (inside_at strengths)) ++ (build 10 (sub_blocks_to n modes) ++ (reads.first ∷ reads.tokens ∷ []))) j 0
  unfolding tallied_of
  late i j e = past 8 _ _ i (15 + j) (omega arith) ∙ past 4 _ _ (15 + j) (11 + j) (omega arith) ∙ past 5 _ _ (11 + j) (6 + j) (omega arith) ∙ past 4 _ _ (6 + j) (2 + j) (omega arith) ∙ past 2 _ _ (2 + j) j refl

  pub tallied_inside : (y : ℕ) → y < 2 → get_or t (23 + y) 0 ≡ how_many n (inside_at strengths) y
  tallied_inside y h = late (23 + y) y refl ∙ here 2 _ _ y h

  pub tallied_subs : (y : ℕ) → y < 10 → get_or t (25 + y) 0 ≡ sub_blocks_to n modes y
  tallied_subs y h = late (25 + y) (2 + y) (omega arith) ∙ past 2 _ _ (2 + y) y refl ∙ here 10 _ _ y h

  pub tallied_first : get_or t 35 0 ≡ reads.first
  tallied_first = late 35 12 refl ∙ past 2 _ _ 12 10 refl ∙ past 10 _ _ 10 0 refl

  pub tallied_tokens : get_or t 36 0 ≡ reads.tokens
  tallied_tokens = late 36 13 refl ∙ past 2 _ _ 13 11 refl ∙ past 10 _ _ 11 1 refl

-- what holds of each place of each table holds of every place
pub by_tables : (P : ℕ → Type 0) → ((y : ℕ) → y < 8 → P y) → ((y : ℕ) → y < 4 → P (8 + y)) → ((y : ℕ) → y < 5 → P (12 + y)) → ((y : ℕ) → y < 4 → P (17 + y)) → ((y : ℕ) → y < 2 → P (21 + y))
    → ((y : ℕ) → y < 2 → P (23 + y)) → ((y : ℕ) → y < 10 → P (25 + y)) → P 35 → P 36 → (i : ℕ) → i < 37 → P i
by_tables P a b c d e f g p q i h = elim (lt_or i 8) [
  | inl k ↦ a i k
  | inr k ↦ table 8 4 b (table 12 5 c (table 17 4 d (table 21 2 e (table 23 2 f (table 25 10 g last))))) k
]
  where
    at : (n k : ℕ) → i ≡ n + k → P (n + k) → P i
    at n k e x = subst P (sym e) x

    table : (from rows : ℕ) → ((y : ℕ) → y < rows → P (from + y)) → (from + rows ≤ i → P i) → from ≤ i → P i
    table from rows here later k = elim (lt_or i (from + rows)) [ inl j ↦ at from (i - from) (omega arith) (here (i - from) (omega arith)) | inr j ↦ later j ]

    last : 35 ≤ i → P i
    last k = elim (lt_or i 36) [ inl j ↦ at 35 0 (omega arith) p | inr j ↦ at 36 0 (omega arith) q ]

-- ---- the picture's counts, as the code makes them
module _ (number n : ℕ) (reads : SymbolCounts) (modes strengths : List ℕ) where
  abbrev a : List ℕ
  a = counted (replicate 37 0) 0 8 number

  abbrev blocks : List ℕ
  blocks = blocks_to n modes strengths a

  abbrev all : List ℕ
  all = set (set blocks 35 reads.first) 36 reads.tokens

  long_a : length a ≡ 37
  long_a = counted_long (replicate 37 0) 0 8 number

  long_blocks : length blocks ≡ 37
  long_blocks = blocks_long modes strengths n a long_a

  long_all : length all ≡ 37
  long_all = length-set (set blocks 35 reads.first) 36 reads.tokens ∙ length-set blocks 35 reads.first ∙ long_blocks

  under : (i : ℕ) → i < 35 → get_or all i 0 ≡ get_or blocks i 0
  under i h = get_or-set_other (set blocks 35 reads.first) 36 i reads.tokens 0 (λ e. omega arith) ∙ get_or-set_other blocks 35 i reads.first 0 (λ e. omega arith)

  zero_at : (i : ℕ) → 8 ≤ i → get_or a i 0 ≡ 0
  zero_at i h = counted_beside (replicate 37 0) 0 8 number i (inr h) ∙ get_or_constant {A = ℕ} 37 i 0

  -- in the table at `table`
  part : (table : ℕ) (g : ℕ → ℕ → ℕ) (rows : ℕ) → 8 ≤ table → table + rows ≤ 35
      → ((y : ℕ) → y < rows → (k : ℕ) (l : List ℕ) → length l ≡ 37 → get_or (block_counted modes strengths k l) (table + y) 0 ≡ get_or l (table + y) 0 + g y k)
      → (y : ℕ) → y < rows → get_or all (table + y) 0 ≡ sum_to n (g y)
  part table g rows h o s y q =
      under (table + y) (omega arith) ∙ blocks_in modes strengths (table + y) (g y) (s y q) n a long_a
      ∙ ap (λ (z : ℕ). z + sum_to n (g y)) (zero_at (table + y) (omega arith)) ∙ zero-add (sum_to n (g y))

  abbrev Same : ℕ → Type 0
  Same i = get_or all i 0 ≡ get_or (tallied_of number n reads modes strengths) i 0

  answers : (y : ℕ) → y < 8 → Same y
  answers y h =
      let z : _ = counted_in (replicate 37 0) 0 8 number y h (omega arith) in
      under y (omega arith) ∙ blocks_beside modes strengths n a y long_a (inl h) ∙ (rw (zero-add y) at z) ∙ ap (λ (z : ℕ). z + same number y) (get_or_constant {A = ℕ} 37 y 0) ∙ zero-add (same number y)
      ∙ sym (tallied_answer number n reads modes strengths y h)

  first_at : Same 35
  first_at =
      get_or-set_other (set blocks 35 reads.first) 36 35 reads.tokens 0 (λ e. omega arith) ∙ get_or-set_same blocks 35 reads.first 0 (omega (arith, long_blocks))
      ∙ sym (tallied_first number n reads modes strengths)

  tokens_at : Same 36
  tokens_at =
      get_or-set_same (set blocks 35 reads.first) 36 reads.tokens 0 (omega (arith, long_blocks, length-set blocks 35 reads.first))
      ∙ sym (tallied_tokens number n reads modes strengths)

  all_same : (i : ℕ) → i < 37 → Same i
  unfolding block_counted
  all_same =
      let r : ℕ → ModeRecord = λ k. mode_found modes k in
      let s : ℕ → ℕ = λ k. (strength_found strengths k).strength.inside in
      by_tables Same answers
      (λ y h. part 8 (λ y k. same (segment_at modes k) y) 4 (omega arith) (omega arith) (λ y q k l e. record_segment (r k) (s k) l e y q) y h ∙ sym (tallied_segment number n reads modes strengths y h))
      (λ y h. part 12 (λ y k. same (luma_at modes k) y) 5 (omega arith) (omega arith) (λ y q k l e. record_luma (r k) (s k) l e y q) y h ∙ sym (tallied_luma number n reads modes strengths y h))
      (λ y h. part 17 (λ y k. same (chroma_at modes k) y) 4 (omega arith) (omega arith) (λ y q k l e. record_chroma (r k) (s k) l e y q) y h ∙ sym (tallied_chroma number n reads modes strengths y h))
      (λ y h. part 21 (λ y k. same (skip_at modes k) y) 2 (omega arith) (omega arith) (λ y q k l e. record_skip (r k) (s k) l e y q) y h ∙ sym (tallied_skip number n reads modes strengths y h))
      (λ y h. part 23 (λ y k. same (inside_at strengths k) y) 2 (omega arith) (omega arith) (λ y q k l e. record_inside (r k) (s k) l e y q) y h ∙ sym (tallied_inside number n reads modes strengths y h))
      (λ y h. part 25 (λ y k. sub_blocks (small_at modes k) (sub_mode_at modes k) y) 10 (omega arith) (omega arith) (λ y q k l e. record_subs (r k) (s k) l e y q) y h
      ∙ sym (tallied_subs number n reads modes strengths y h))
      first_at tokens_at

  pub tally_found : (l k : List ℕ) → l ≡ counted (replicate 37 0) 0 8 number → k ≡ blocks_to n modes strengths l → set (set k 35 reads.first) 36 reads.tokens ≡ tallied_of number n reads modes strengths
  tally_found l k e f =
      ap (λ (k : List ℕ). set (set k 35 reads.first) 36 reads.tokens) (f ∙ ap (blocks_to n modes strengths) e)
      ∙ ext_get_or 0 all (tallied_of number n reads modes strengths) (long_all ∙ sym (tallied_long number n reads modes strengths)) (λ i h. all_same i (rw long_all at h))
