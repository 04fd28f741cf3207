-- The laws of a macroblock over a wide reader: its parts, the list of their numbers, and the whole.
use Rattle.std.specs.Prelude.{◌+◌, ◌-◌, ◌*◌, ◌/◌, ◌%◌, ◌^◌, ◌≤◌, ◌<◌, ◌≡◌, ◌≢◌, ◌&&◌}
use Rattle.numbers.specs.Words.{ℕ, zero, suc, add-one, arith, refl, sym, ◌∙◌, ap, ap₂, Bool, true, false, inl, inr, ⊎_elim, lt_or, eq_or, le-ltb, lt-ltb, bit_of, List, length, get_or, set, take, replicate, length-set, get_or-set_other, get_or-set_same, get_or-take, length-take-le, length_build, get_or_build, built, build_same, get_or_constant, build_constant, placed, placed_none, placed_next, length_placed, stored_at, length_stored, ℤ, pos, negsuc, Each, Ok}
use Rattle.reader.specs.ReadingLaws.{Bytes, Valid}
use Rattle.reader.specs.Reading.{done, ◌>>=◌, count}
use Rattle.reader.specs.declared.boolean.Reader.{Reader}
use Rattle.header.specs.declared.quantizers.Factors.{Factors}
use Rattle.residual.specs.Fast.{spots_of}
use Rattle.residual.specs.FastLaws.{spots_same}
use Rattle.coefficients.specs.Block.{Coefficients}
use Rattle.transform.specs.declared.Transformed.{Transformed}
use Rattle.transform.specs.Transform.{samples_of, transform_of}
use Rattle.transform.specs.TransformLaws.{transform_walsh_in}
use Rattle.wide.specs.Counted.{counted}
use Rattle.wide.specs.declared.wide.Wide.{Wide}
use Rattle.wide.specs.Wide.{widen_of, eight_inside, narrow_of}
use Rattle.wide.specs.WideRuns.{WideReads, wide_counted}
use Rattle.transform.specs.Lanes.{macroblock_lanes}
use Rattle.transform.specs.LanesLaws.{squares_are}
use Rattle.residual.specs.Quick.{Spots, Wider, block_spots, number_place, in_blocks, model_at, kind_at, place_at, quick_part, parts_from, QuickWhere}
use Rattle.residual.specs.Residual.{Model, initial, second_kind_of, kind_of, coordinates, coded, flagged, spread, second_place, second, sixteen_at, stored, empty_of, advance, blocks_from, residual_of, residual_answer}
use Rattle.residual.specs.ResidualSteps.{call_handed}
use Rattle.residual.specs.declared.quick.Quick.{Quick}

-- ---- the parts are the macroblock
parts_blocks : (table : List ℕ) (f : Factors) (small : Bool) (n i : ℕ) (m : Model) → blocks_from table f small n i m ≡ parts_from table f small n (suc i) m
unfolding blocks_from parts_from quick_part
parts_blocks table f small zero i m = refl
parts_blocks table f small (suc n) i m = λ p. advance table f small i m >>= (λ x. (ap (λ (k : ℕ). blocks_from table f small n k x) (add-one i) ∙ parts_blocks table f small n (suc i) x) p)

pub residual_parts : (table : List ℕ) (f : Factors) (small : Bool) (top left : List ℕ) → residual_of table f small false top left ≡ parts_from table f small (25 - bit_of small) (bit_of small) (initial top left)
unfolding residual_of parts_from quick_part
residual_parts table f true top left = parts_blocks table f true 24 0 (initial top left)
residual_parts table f false top left = λ p. second table f (initial top left) >>= (λ x. parts_blocks table f false 24 0 x p)

module _ (table : List ℕ) (f : Factors) (small : Bool) where
  -- what a part is read from, and what it makes of the model
  abbrev pub old_at : (j : ℕ) → Model → List ℤ
  old_at zero m = replicate 16 (pos 0)
  old_at (suc i) m = sixteen_at m.coefficients (16 * i)

  abbrev pub after_at : (j : ℕ) → Model → Coefficients → Model
  after_at zero m c = flagged (second_kind_of f) second_place c.end (spread m.coefficients (samples_of true c.values) 16) m.empty m
  after_at (suc i) m c = flagged (kind_of f small i) (coordinates i) c.end (stored m.coefficients (16 * i) c.values) (m.empty && empty_of c) m

  pub part_coded : (j : ℕ) (m : Model) → quick_part table f small j m ≡ (coded table (kind_at f small j) (place_at j) m.top m.left (old_at j m) >>= (λ c. done (after_at j m c)))
  unfolding quick_part second advance
  part_coded zero m = refl
  part_coded (suc i) m = refl

-- ---- where the numbers stand
pub block_luma : (i : ℕ) → i < 16 → block_spots i ≡ record { at = i; step = 16 }
unfolding block_spots
block_luma i h = rw (lt-ltb i 16 h, block_spots)

pub block_chroma : (i : ℕ) → 16 ≤ i → block_spots i ≡ record { at = 240 + i; step = 8 }
unfolding block_spots
block_chroma i h = rw (le-ltb i 16 h, block_spots)

-- number k of block i
abbrev spot : (i k : ℕ) → ℕ
spot i k = (block_spots i).at + (block_spots i).step * k

spot_luma : (i k : ℕ) → i < 16 → spot i k ≡ i + 16 * k
spot_luma i k h = ap (λ (x : Spots). x.at + x.step * k) (block_luma i h)

spot_chroma : (i k : ℕ) → 16 ≤ i → spot i k ≡ 240 + i + 8 * k
spot_chroma i k h = ap (λ (x : Spots). x.at + x.step * k) (block_chroma i h)

-- it is one of the 384
spot_below : (i k : ℕ) → i < 24 → k < 16 → spot i k < 384
spot_below i k h g = ⊎_elim (λ (l : i < 16). omega (arith, spot_luma i k l)) (λ (l : 16 ≤ i). omega (arith, spot_chroma i k l)) (lt_or i 16)

number_below : (p : ℕ) → p < 384 → number_place p < 384
number_below p h = spot_below (p / 16) (p % 16) (omega arith) (omega arith)

-- and no other number's
number_apart : (p q : ℕ) → p < 384 → q < 384 → number_place p ≡ number_place q → p ≡ q
number_apart p q h g e =
    ⊎_elim
    (λ (l : p / 16 < 16). ⊎_elim (λ (m : q / 16 < 16). omega (arith, e, spot_luma (p / 16) (p % 16) l, spot_luma (q / 16) (q % 16) m)) (λ (m : 16 ≤ q / 16). omega (arith, e, spot_luma (p / 16) (p % 16) l, spot_chroma (q / 16) (q % 16) m)) (lt_or (q / 16) 16))
    (λ (l : 16 ≤ p / 16). ⊎_elim (λ (m : q / 16 < 16). omega (arith, e, spot_chroma (p / 16) (p % 16) l, spot_luma (q / 16) (q % 16) m)) (λ (m : 16 ≤ q / 16). omega (arith, e, spot_chroma (p / 16) (p % 16) l, spot_chroma (q / 16) (q % 16) m)) (lt_or (q / 16) 16))
    (lt_or (p / 16) 16)

pub number_block : (i k : ℕ) → k < 16 → spot i k ≡ number_place (16 * i + k)
number_block i k h =
    let d : i ≡ (16 * i + k) / 16 = omega arith in
    let m : k ≡ (16 * i + k) % 16 = omega arith in
    ap₂ spot d m

-- ---- the numbers, block after block
module _ (l : List ℤ) where
  pub length_in_blocks : length (in_blocks l) ≡ 384
  unfolding in_blocks
  length_in_blocks = length_build 384 _

  pub in_blocks_at : (p : ℕ) → p < 384 → get_or (in_blocks l) p (pos 0) ≡ get_or l (number_place p) (pos 0)
  unfolding in_blocks
  in_blocks_at p h = get_or_build 384 (λ p. get_or l (number_place p) (pos 0)) p (pos 0) h

  -- one of them set
  in_blocks_set : (q : ℕ) (v : ℤ) → q < 384 → 384 ≤ length l → in_blocks (set l (number_place q) v) ≡ set (in_blocks l) q v
  unfolding in_blocks
  in_blocks_set q v h n = sym (built (set (in_blocks l) q v) 384 (λ p. get_or (set l (number_place q) v) (number_place p) (pos 0)) (pos 0) (length-set (in_blocks l) q v ∙ length_in_blocks) at)
    where
      at : (p : ℕ) → p < 384 → get_or (set (in_blocks l) q v) p (pos 0) ≡ get_or (set l (number_place q) v) (number_place p) (pos 0)
      at p g = elim (eq_or p q) [
        | inl e ↦ rw e (get_or-set_same (in_blocks l) q v (pos 0) (rw length_in_blocks h) ∙ sym (get_or-set_same l (number_place q) v (pos 0) (omega (arith, number_below q h))))
        | inr e ↦ get_or-set_other (in_blocks l) q p v (pos 0) e ∙ in_blocks_at p g ∙ sym (get_or-set_other l (number_place q) (number_place p) v (pos 0) (λ z. e (number_apart p q g h z)))
      ]

  -- one behind them set
  in_blocks_past : (x : ℕ) (v : ℤ) → 384 ≤ x → in_blocks (set l x v) ≡ in_blocks l
  unfolding in_blocks
  in_blocks_past x v h = build_same 384 _ _ (λ p g. get_or-set_other l x (number_place p) v (pos 0) (λ e. omega (arith, number_below p g)))

-- a block's
pub in_blocks_spaced : (l : List ℤ) (i : ℕ) (f : ℕ → ℤ) (n : ℕ) → i < 24 → n ≤ 16 → 384 ≤ length l → in_blocks (stored_at l (λ j. (block_spots i).at + (block_spots i).step * j) f n) ≡ placed (in_blocks l) (16 * i) f n
unfolding stored_at
in_blocks_spaced l i f zero h g k = sym (placed_none (in_blocks l) (16 * i) f)
in_blocks_spaced l i f (suc n) h g k =
    let x : List ℤ = stored_at l (λ j. (block_spots i).at + (block_spots i).step * j) f n in
    ap (λ (q : ℕ). in_blocks (set x q (f n))) (number_block i n (omega arith))
    ∙ in_blocks_set x (16 * i + n) (f n) (omega arith) (rw (length_stored l (λ j. (block_spots i).at + (block_spots i).step * j) f n) k)
    ∙ ap (λ (y : List ℤ). set y (16 * i + n) (f n)) (in_blocks_spaced l i f n h (omega arith) k)
    ∙ placed_next (in_blocks l) (16 * i) f n ∙ ap (placed (in_blocks l) (16 * i) f) (add-one n)

-- those of the second-order block
pub in_blocks_second : (l : List ℤ) (f : ℕ → ℤ) (n : ℕ) → in_blocks (stored_at l (λ j. 384 + 1 * j) f n) ≡ in_blocks l
unfolding stored_at
in_blocks_second l f zero = refl
in_blocks_second l f (suc n) = in_blocks_past (stored_at l (λ j. 384 + 1 * j) f n) (384 + 1 * n) (f n) (omega arith) ∙ in_blocks_second l f n

-- the first of each block of luma
pub in_blocks_firsts : (l dc : List ℤ) (n : ℕ) → n ≤ 16 → 384 ≤ length l → in_blocks (placed l 0 (λ j. get_or dc j (pos 0)) n) ≡ spread (in_blocks l) dc n
unfolding placed spread
in_blocks_firsts l dc zero g k = refl
in_blocks_firsts l dc (suc n) g k =
    let x : List ℤ = placed l 0 (λ j. get_or dc j (pos 0)) n in
    let e : 0 + n ≡ number_place (16 * n) =
    let d : n ≡ 16 * n / 16 = omega arith in
    let m : 0 ≡ 16 * n % 16 = omega arith in
    omega (arith, spot_luma n 0 (omega arith), ap₂ spot d m) in
    ap (λ (q : ℕ). in_blocks (set x q (get_or dc n (pos 0)))) e
    ∙ in_blocks_set x (16 * n) (get_or dc n (pos 0)) (omega arith) (rw (length_placed l 0 (λ j. get_or dc j (pos 0)) n) k)
    ∙ ap (λ (y : List ℤ). set y (16 * n) (get_or dc n (pos 0))) (in_blocks_firsts l dc n (omega arith) k)

pub in_blocks_zeros : in_blocks (replicate 400 (pos 0)) ≡ replicate 384 (pos 0)
unfolding in_blocks
in_blocks_zeros = build_same 384 _ (λ p. pos 0) (λ p h. get_or_constant 400 (number_place p) (pos 0)) ∙ build_constant 384 (pos 0)

-- what is handed over
in_blocks_squares : (l : List ℤ) → length l ≡ 400 → take 384 l ≡ macroblock_lanes (in_blocks l)
in_blocks_squares l e = squares_are (in_blocks l) (length-take-le 384 l (omega arith)) luma chroma
  where
    luma : (p : ℕ) → p < 256 → get_or (take 384 l) p (pos 0) ≡ get_or (in_blocks l) (16 * (p % 16) + p / 16) (pos 0)
    luma p h =
        let q : ℕ = 16 * (p % 16) + p / 16 in
        let z : number_place q ≡ p = omega (arith, spot_luma (q / 16) (q % 16) (omega arith)) in
        get_or-take 384 l p (pos 0) (omega arith) ∙ sym (in_blocks_at l q (omega arith) ∙ ap (λ (x : ℕ). get_or l x (pos 0)) z)

    chroma : (p : ℕ) → p < 128 → get_or (take 384 l) (256 + p) (pos 0) ≡ get_or (in_blocks l) (256 + (16 * (p % 8) + p / 8)) (pos 0)
    chroma p h =
        let q : ℕ = 256 + (16 * (p % 8) + p / 8) in
        let z : number_place q ≡ 256 + p = omega (arith, spot_chroma (q / 16) (q % 16) (omega arith)) in
        get_or-take 384 l (256 + p) (pos 0) (omega arith) ∙ sym (in_blocks_at l q (omega arith) ∙ ap (λ (x : ℕ). get_or l x (pos 0)) z)

-- the numbers of the second-order block, as the code takes them
pub second_numbers : (l : List ℤ) → sixteen_at l 384 ≡ spots_of l 384 1
second_numbers l = spots_same l l 384 384 1 (λ k h. let e : 384 + k ≡ 384 + 1 * k = omega arith in ap (λ (n : ℕ). get_or l n (pos 0)) e)

-- ---- part 0, and the others, as the code tells them
less_one : (i : ℕ) → suc i - 1 ≡ i
less_one i = omega arith

module _ (f : Factors) (small : Bool) where
  pub kind_first : (j : ℕ) → j ≡ 0 → second_kind_of f ≡ kind_at f small j
  kind_first j e = rw e refl

  pub kind_later : (j : ℕ) → (j ≢ 0) → kind_of f small (j - 1) ≡ kind_at f small j
  kind_later zero h = absurd (h refl)
  kind_later (suc i) h = ap (kind_of f small) (less_one i)

pub place_first : (j : ℕ) → j ≡ 0 → second_place ≡ place_at j
place_first j e = rw e refl

pub place_later : (j : ℕ) → (j ≢ 0) → coordinates (j - 1) ≡ place_at j
place_later zero h = absurd (h refl)
place_later (suc i) h = ap coordinates (less_one i)

-- they are numbers of sixteen bits
pub samples_in : (c : List ℤ) {t : Transformed} → t ≡ transform_of c true → Each (negsuc 32767) (pos 32767) t.samples
samples_in c e = rw e (transform_walsh_in c)

-- the first coefficients, one store at a time
pub firsts_next : (p dc : List ℤ) (k : ℕ) {l : List ℤ} {v : ℤ} → l ≡ placed p 0 (λ j. get_or dc j (pos 0)) k → v ≡ get_or dc k (pos 0) → set l k v ≡ placed p 0 (λ j. get_or dc j (pos 0)) (k + 1)
firsts_next p dc k e h =
    let z : k ≡ 0 + k = omega arith in
    (λ i. set (e i) (z i) (h i)) ∙ placed_next p 0 (λ j. get_or dc j (pos 0)) k

-- ---- THE LAW of the macroblock: where its end was not passed
pub quick_fine : (s : List ℕ) (r : Reader) (table : List ℕ) (f : Factors) (small : Bool) (top left : List ℕ) (old : List ℤ) (m : Wider) (flat : List ℤ) {start : Wide} → Bytes s → Valid s r → length s < 2 ^ 63 → start ≡ widen_of r
    → WideReads s 0 30400 (counted 0 (residual_of table f small false top left)) start (model_at m flat, m.reads) m.next → eight_inside s m.next ≡ true → {x : Reader} → x ≡ narrow_of s m.next
    → length flat ≡ 400 → {new : List ℤ} → new ≡ take 384 flat
    → QuickWhere true s r table f small top left old new (record { fine = true; read = record { residual = record { answer = Ok (m.empty, x); top = m.top; left = m.left }; reads = m.reads } })
quick_fine s r table f small top left old m flat y v n w h i {x} e l {new} k =
    let c = wide_counted s r (residual_of table f small false top left) 30400 y v (omega (arith, v.inside)) (rw w at h) i in
    (rw e (call_handed s r table f small false top left old c.same (k ∙ in_blocks_squares flat l)), sym c.reads)

-- what the code's answer says
module _ (s : List ℕ) (r : Reader) (table : List ℕ) (f : Factors) (small : Bool) (top left : List ℕ) (old new : List ℤ) (q : Quick) {fine : Bool} (h : QuickWhere fine s r table f small top left old new q) where
  pub quick_good : {skip : Bool} → skip ≡ false → fine ≡ true
      → (record { answer = q.read.residual; out = new } ≡ residual_answer s r table f small skip top left old) × (q.read.reads ≡ count (residual_of table f small skip top left) s r)
  quick_good k e = let g : QuickWhere true s r table f small top left old new q = rw e at h in rw k g

  pub quick_kept : fine ≡ false → new ≡ old
  quick_kept e = let g : QuickWhere false s r table f small top left old new q = rw e at h in g
