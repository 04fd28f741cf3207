-- The laws of a block over a wide reader: its numbers in a longer list, how many symbols it reads, and the turns of its loop.
use Rattle.std.specs.Prelude.{◌+◌, ◌-◌, ◌*◌, ◌/◌, ◌%◌, ◌^◌, ◌≤◌, ◌<◌, ◌≡◌, ◌⊎◌, ◌∷◌, ◌+ℤ◌, ◌-ℤ◌, ◌*ℤ◌}
use Rattle.numbers.specs.Words.{ℕ, zero, suc, add-zero, mul-le-mul_left, mul-suc, ℕ_discrete, arith, refl, sym, ◌∙◌, ap, Bool, true, false, inl, inr, ⊎_elim, eqb, leb, lit<, lit≤, lt_or, eqb-true, leb-true, List, [], length, get_or, set, replicate, length-set, get_or-set_other, get_or-set_same, length_build, get_or_build, built, build_same, get_or_constant, build_constant, length_stored, stored_off, stored_in, all_below, all_below_lem, ℤ, pos, up, dn, of_le, of_eq, add_parts, sub_parts_ℤ, up_times, dn_times, round, there, wrap_z, wrap_is, w16}
use Rattle.header.specs.Header.{probability_count}
use Rattle.reader.specs.ReadingLaws.{Bytes}
use Rattle.reader.specs.Counts.{token_depths}
use Rattle.reader.specs.CountsLaws.{costs_walk, depths_of}
use Rattle.reader.specs.Extra.{extra}
use Rattle.reader.specs.Reading.{Reading, done, ask, symbol, ◌>>=◌}
use Rattle.reader.specs.Token.{token_tree, eleven_at}
use Rattle.reader.specs.TokenLaws.{eleven_at_lem, eleven_bytes}
use Rattle.reader.specs.TreesLaws.{walk_below}
use Rattle.reader.specs.declared.trees.Branch.{Branch}
use Rattle.reader.specs.Trees.{branch_at_of, follow, walk}
use Rattle.reader.specs.declared.trees.Branch.TheVariants as B
use Rattle.reader.specs.declared.boolean.Reader.{Reader}
use Rattle.wide.specs.Counted.{counted}
use Rattle.wide.specs.Padded.{run_padded}
use Rattle.wide.specs.Wide as wide
use Rattle.wide.specs.WideLaws.{Sim}
use Rattle.wide.specs.WideRuns.{WideReads, Going, going_start, going_fill, going_bit, going_as, going_weaken, going_cost, going_told, going_fresh, call_fresh, fill_fresh, going_half, reads_then, walk_asks}
use Rattle.wide.specs.declared.wide.Bit.{Bit}
use Rattle.wide.specs.declared.wide.Wide.{Wide}
use Rattle.residual.specs.Fast.{WideBlock, spots_of, strewn, BlockCoded}
use Rattle.residual.specs.Residual.{sixteen_at}
use Rattle.coefficients.specs.BlockLaws.{SixteenBits, magnitude_within, bits_of, magnitude_costs, rest_of, sign_on, block_asks, rest_ends, rest_zero, rest_number, block_none}
use Rattle.coefficients.specs.BlockSteps.{place_below, zigzag_below, context_more}
use Rattle.coefficients.specs.Block.{categories, category, magnitude, sign_of, bands, zigzag, probability_place, quantizer_at, context_after, Coefficients, block_from, block}
use Rattle.residual.specs.declared.fast.Number.{Number}
use Rattle.residual.specs.declared.fast.Zeros.{Zeros}
unfoldable pub use Rattle.residual.specs.Fast.{places_after_of, token_symbols}
pub use Rattle.residual.specs.Fast.{raised_of, Counting, AtOne, AtTwo, AtEnd, Zeroed}

-- ---- two lists that agree in every place
same_list : (l m : List ℤ) → length l ≡ length m → ((i : ℕ) → i < length m → get_or l i (pos 0) ≡ get_or m i (pos 0)) → l ≡ m
same_list l m e h =
    built l (length m) (λ i. get_or m i (pos 0)) (pos 0) e h
    ∙ sym (built m (length m) (λ i. get_or m i (pos 0)) (pos 0) refl (λ i k. refl))

-- ---- sixteen numbers a step apart
-- places a step apart are apart, and none is past the last
pub step_more : (step : ℕ) {j k : ℕ} → j < k → step * j + step ≤ step * k
step_more step {j} {k} h = rw (sym (mul-suc step j)) (mul-le-mul_left {m = suc j} {n = k} step (omega arith))

pub step_apart : {step j k : ℕ} → 1 ≤ step → step * j ≡ step * k → j ≡ k
step_apart {step} {j} {k} h e =
    ⊎_elim (λ (l : j < k). absurd (omega (arith, step_more step l, e)))
    (λ (l : k ≤ j). ⊎_elim (λ (m : k < j). absurd (omega (arith, step_more step m, e))) (λ (m : j ≤ k). omega arith) (lt_or k j))
    (lt_or j k)

pub step_last : (step : ℕ) {j : ℕ} → j < 16 → step * j ≤ 15 * step
step_last step {j} h = omega (arith, mul-le-mul_left {m = j} {n = 15} step (omega arith))

-- none of the first n places
abbrev pub Between : (at step n i : ℕ) → Type 0
Between at step n i = (j : ℕ) → j < n → i ≡ at + step * j → ⊥

-- one of them
record Spot (at step n i : ℕ) : Type 0 where
  j : ℕ
  below : j < n
  is : i ≡ at + step * j

spot_or : (at step n i : ℕ) → Spot at step n i ⊎ Between at step n i
spot_or at step zero i = inr (λ j h e. omega arith)
spot_or at step (suc n) i = elim (ℕ_discrete i (at + step * n)) [
  | yes e ↦ inl (record { j = n; below = omega arith; is = e })
  | no e ↦ ⊎_elim (λ (x : Spot at step n i). inl (record { j = x.j; below = omega (arith, x.below); is = x.is }))
      (λ (x : Between at step n i). inr (λ j h q. elim (ℕ_discrete j n) [ yes f ↦ e (q ∙ ap (λ (k : ℕ). at + step * k) f) | no f ↦ x j (omega arith) q ]))
      (spot_or at step n i)
]

pub length_spots : (l : List ℤ) (at step : ℕ) → length (spots_of l at step) ≡ 16
unfolding spots_of
length_spots l at step = length_build 16 _

-- sixteen numbers side by side that are those of the spots of another list
pub spots_same : (l m : List ℤ) (from at step : ℕ) → ((k : ℕ) → k < 16 → get_or l (from + k) (pos 0) ≡ get_or m (at + step * k) (pos 0)) → sixteen_at l from ≡ spots_of m at step
unfolding sixteen_at spots_of
spots_same l m from at step h = build_same 16 (λ k. get_or l (from + k) (pos 0)) (λ k. get_or m (at + step * k) (pos 0)) h

pub spots_zeros : (n at step : ℕ) → spots_of (replicate n (pos 0)) at step ≡ replicate 16 (pos 0)
unfolding spots_of
spots_zeros n at step = build_same 16 (λ k. get_or (replicate n (pos 0)) (at + step * k) (pos 0)) (λ k. pos 0) (λ k h. get_or_constant n (at + step * k) (pos 0)) ∙ build_constant 16 (pos 0)

pub spots_at_lem : (l : List ℤ) (at step j : ℕ) → j < 16 → get_or (spots_of l at step) j (pos 0) ≡ get_or l (at + step * j) (pos 0)
unfolding spots_of
spots_at_lem l at step j h = get_or_build 16 (λ j. get_or l (at + step * j) (pos 0)) j (pos 0) h

module _ (l : List ℤ) (at step : ℕ) where
  pub length_strewn : (c : List ℤ) → length (strewn l at step c) ≡ length l
  length_strewn c = length_stored l (λ j. at + step * j) (λ j. get_or c j (pos 0)) 16

  pub strewn_off : (c : List ℤ) (i : ℕ) → Between at step 16 i → get_or (strewn l at step c) i (pos 0) ≡ get_or l i (pos 0)
  strewn_off c i h = stored_off l (λ j. at + step * j) (λ j. get_or c j (pos 0)) 16 i (pos 0) h

  module _ (apart : 1 ≤ step) (room : at + 15 * step < length l) where
    pub strewn_in : (c : List ℤ) (j : ℕ) → j < 16 → get_or (strewn l at step c) (at + step * j) (pos 0) ≡ get_or c j (pos 0)
    strewn_in c j h =
        stored_in l (λ j. at + step * j) (λ j. get_or c j (pos 0)) 16 j (pos 0)
        (λ k m. (omega (arith, room, step_last step m), λ q. step_apart apart (omega arith))) h

    -- two lists agree where they do in the sixteen places and outside of them
    by_spot : (x y : List ℤ) → length x ≡ length l → length y ≡ length l
        → ((j : ℕ) → j < 16 → get_or x (at + step * j) (pos 0) ≡ get_or y (at + step * j) (pos 0))
        → ((i : ℕ) → Between at step 16 i → get_or x i (pos 0) ≡ get_or y i (pos 0)) → x ≡ y
    by_spot x y e f g h =
        same_list x y (e ∙ sym f)
        (λ i k. ⊎_elim (λ (p : Spot at step 16 i). rw p.is (g p.j p.below)) (λ (p : Between at step 16 i). h i p) (spot_or at step 16 i))

    pub strewn_same : l ≡ strewn l at step (spots_of l at step)
    strewn_same =
        let c : List ℤ = spots_of l at step in
        by_spot l (strewn l at step c) refl (length_strewn c) (λ j h. sym (strewn_in c j h ∙ spots_at_lem l at step j h)) (λ i h. sym (strewn_off c i h))

    pub spots_strewn : (c : List ℤ) → length c ≡ 16 → spots_of (strewn l at step c) at step ≡ c
    unfolding spots_of
    spots_strewn c e = sym (built c 16 (λ j. get_or (strewn l at step c) (at + step * j) (pos 0)) (pos 0) e (λ j h. sym (strewn_in c j h)))

    -- one of them set
    pub strewn_set : (c : List ℤ) (z : ℕ) (v : ℤ) → length c ≡ 16 → z < 16 → set (strewn l at step c) (at + step * z) v ≡ strewn l at step (set c z v)
    strewn_set c z v e k =
        by_spot (set (strewn l at step c) (at + step * z) v) (strewn l at step (set c z v))
        (length-set (strewn l at step c) (at + step * z) v ∙ length_strewn c) (length_strewn (set c z v)) inner outer
      where
        inner : (j : ℕ) → j < 16 → get_or (set (strewn l at step c) (at + step * z) v) (at + step * j) (pos 0) ≡ get_or (strewn l at step (set c z v)) (at + step * j) (pos 0)
        inner j h = elim (ℕ_discrete j z) [
          | yes f ↦ rw f
              (get_or-set_same (strewn l at step c) (at + step * z) v (pos 0) (rw (length_strewn c) (omega (arith, room, step_last step k)))
              ∙ sym (strewn_in (set c z v) z k ∙ get_or-set_same c z v (pos 0) (rw e k)))
          | no f ↦
              get_or-set_other (strewn l at step c) (at + step * z) (at + step * j) v (pos 0) (λ q. f (step_apart apart (omega arith)))
              ∙ strewn_in c j h
              ∙ sym (strewn_in (set c z v) j h ∙ get_or-set_other c z j v (pos 0) f)
        ]

        outer : (i : ℕ) → Between at step 16 i → get_or (set (strewn l at step c) (at + step * z) v) i (pos 0) ≡ get_or (strewn l at step (set c z v)) i (pos 0)
        outer i h =
            get_or-set_other (strewn l at step c) (at + step * z) i v (pos 0) (h z k) ∙ strewn_off c i h ∙ sym (strewn_off (set c z v) i h)

-- a block that was read leaves the list as long as it was
pub coded_long : {s : List ℕ} {w : Wide} {g : List ℤ → Reading Coefficients} {at step : ℕ} {old new : List ℤ} {q : WideBlock} → BlockCoded s w g at step old new q → length new ≡ length old
coded_long {at} {step} {old} {new} c = ap length c.kept ∙ length_strewn old at step (spots_of new at step)

-- ---- tables that the code has
-- where the probabilities of the band of the position after each stand among those of its kind; past its end `bands` has 0
unfoldable pub bands_after : List ℕ
bands_after = 33 ∷ 66 ∷ 99 ∷ 198 ∷ 132 ∷ 165 ∷ 198 ∷ 198 ∷ 198 ∷ 198 ∷ 198 ∷ 198 ∷ 198 ∷ 198 ∷ 231 ∷ 0 ∷ []

bands_after_lem : all_below 16 (λ n. eqb (get_or bands_after n 0) (get_or bands (n + 1) 0 * 33)) ≡ true
unfolding bands_after bands
bands_after_lem = refl

-- an entry made, an entry read, the place of a first position, and a place for another context
pub places_after_lem : (kind n : ℕ) → n < 16 → get_or bands_after n 0 + 264 * kind ≡ probability_place kind (n + 1) 0
unfolding probability_place
places_after_lem kind n h =
    let e : get_or bands_after n 0 ≡ get_or bands (n + 1) 0 * 33 = eqb-true _ _ (all_below_lem (λ n. eqb (get_or bands_after n 0) (get_or bands (n + 1) 0 * 33)) 16 bands_after_lem n h) in
    omega (arith, e)

pub place_after : (kind n : ℕ) {places : List ℕ} {at : ℕ} → n < 16 → places ≡ places_after_of kind → at ≡ get_or places n 0 → at ≡ probability_place kind (n + 1) 0
unfolding places_after_of
place_after kind n h e f = f ∙ ap (λ (l : List ℕ). get_or l n 0) e ∙ get_or_build 16 (λ n. probability_place kind (n + 1) 0) n 0 h

pub place_first : (kind ctx first : ℕ) → first ≤ 1 → kind * 264 + first * 33 + ctx * 11 ≡ probability_place kind first ctx
unfolding probability_place bands
place_first kind ctx zero h = omega arith
place_first kind ctx (suc zero) h = omega arith
place_first kind ctx (suc (suc n)) h = absurd (omega arith)

pub place_near : (kind n ctx : ℕ) {near at : ℕ} → near ≡ ctx * 11 → at ≡ probability_place kind n 0 → at + near ≡ probability_place kind n ctx
unfolding probability_place
place_near kind n ctx e f = omega arith

symbols_sum : all_below 10 (λ i. eqb (get_or token_symbols (i + 2) 0) (get_or token_depths (i + 2) 0 + bits_of (i + 2))) ≡ true
unfolding token_symbols bits_of categories
symbols_sum = refl

pub symbols_is : (t : ℕ) → 2 ≤ t → t < 12 → get_or token_symbols t 0 ≡ get_or token_depths t 0 + bits_of t
symbols_is t l h =
    let e : t ≡ t - 2 + 2 = omega arith in
    rw e (eqb-true _ _ (all_below_lem (λ i. eqb (get_or token_symbols (i + 2) 0) (get_or token_depths (i + 2) 0 + bits_of (i + 2))) 10 symbols_sum (t - 2) (omega arith)))

symbols_few : all_below 12 (λ t. leb (get_or token_symbols t 0) 18) ≡ true
unfolding token_symbols
symbols_few = refl

pub symbols_most : (t : ℕ) → t < 12 → get_or token_symbols t 0 ≤ 18
symbols_most t h = leb-true _ _ (all_below_lem (λ t. leb (get_or token_symbols t 0) 18) 12 symbols_few t h)

-- ---- the product in 16 bits: 268468224 is 4096 * 65536 + 32768
raised_parts : (b : Bool) (x y : ℕ) → x ≤ 268435456 → y ≡ raised_of b x → (pos (y % 65536) -ℤ pos 32768) +ℤ pos 65536 *ℤ (pos (y / 65536) -ℤ pos 4096) ≡ sign_of b x
raised_parts b x y h e =
    let z = pos (y % 65536) -ℤ pos 32768 in
    let k = pos (y / 65536) -ℤ pos 4096 in
    let a = up_times 65536 k in
    let c = dn_times 65536 k in
    of_eq (omega (arith, add_parts z (pos 65536 *ℤ k), sub_parts_ℤ (pos (y % 65536)) (pos 32768), sub_parts_ℤ (pos (y / 65536)) (pos 4096), sign b x y h e))
  where
    sign : (b : Bool) (x y : ℕ) → x ≤ 268435456 → y ≡ raised_of b x → up (sign_of b x) + 268468224 ≡ dn (sign_of b x) + y
    sign true zero y h e = omega arith
    sign true (suc x) y h e = omega arith
    sign false x y h e = omega arith

pub wrap_raised : (b : Bool) (x : ℕ) {y : ℕ} → x ≤ 268435456 → y ≡ raised_of b x → wrap_z (sign_of b x) ≡ pos (y % 65536) -ℤ pos 32768
wrap_raised b x {y} h e =
    let s = sub_parts_ℤ (pos (y % 65536)) (pos 32768) in
    wrap_is (pos (y / 65536) -ℤ pos 4096) (record { low = of_le (omega arith); high = of_le (omega arith) }) (raised_parts b x y h e)

-- ---- the first of eleven probabilities
first_of : (table : List ℕ) (at : ℕ) → get_or (eleven_at table at) 0 0 ≡ get_or table at 0
first_of table at = eleven_at_lem table at 0 (lit< tt) ∙ ap (λ (i : ℕ). get_or table i 0) (add-zero at)

-- ---- a number
pub reads_category : (s ps : List ℕ) {v : ℕ} {w q : Wide} (base : ℕ) → WideReads s 0 64 (extra ps) w v q → WideReads s 0 64 (category base ps) w (base + v) q
reads_category s ps base h = reads_then s 0 64 (extra ps) (λ v. base + v) h

-- ---- a walk of coeff_tree and what follows it, counted, one node at a time
module _ {A : Type 0} {s : List ℕ} {E : (A × ℕ) × Reader} {lim n p : ℕ} {w : Wide} {q : Bit} {b : Bool} (ps : List ℕ) (i k m c : ℕ) (f : ℕ → Reading A) (y : Bytes s) (h : p < 256) (e : get_or ps i 0 ≡ p) (a : Going s E lim (suc k + 7) n (counted c (walk (suc m) ps token_tree i >>= f)) w) (o : q ≡ wide.wide_bit_of w p) (v : q.on ≡ b) where
  stepped : Going s E lim (suc k) n (counted (suc c) (follow (walk m ps token_tree) (branch_at_of token_tree i b) >>= f)) q.next
  unfolding counted
  stepped = going_bit k y h (going_as (ap (λ (g : Reading ℕ). counted c (g >>= f)) (walk_asks m ps token_tree i ∙ ap (λ (z : ℕ). ask z (λ b. follow (walk m ps token_tree) (branch_at_of token_tree i b))) e)) a) o v

  step_node : {j : ℕ} → branch_at_of token_tree i b ≡ B.Node j → Going s E lim (suc k) n (counted (suc c) (walk m ps token_tree j >>= f)) q.next
  step_node g = going_as (ap (λ (x : Branch). counted (suc c) (follow (walk m ps token_tree) x >>= f)) g) stepped

  step_leaf : {t : ℕ} → branch_at_of token_tree i b ≡ B.Leaf t → Going s E lim (suc k) n (counted (suc c) (f t)) q.next
  step_leaf g = going_as (ap (λ (x : Branch). counted (suc c) (follow (walk m ps token_tree) x >>= f)) g) stepped

-- ---- a run of zeros
module _ (s table : List ℕ) (kind q0 q1 : ℕ) (values : List ℤ) (E : (Coefficients × ℕ) × Reader) (lim : ℕ) where
  -- at node 1 of position n, whose probabilities stand at p, c symbols in; at node 2; and after the last position
  module _ {n p c : ℕ} {w : Wide} {q : Bit} (y : Bytes s) (h : get_or table (p + 1) 0 < 256) (o : q ≡ wide.wide_bit_of w (get_or table (p + 1) 0)) where
    one_on : q.on ≡ true → AtOne s table kind q0 q1 values E lim n p c w → AtTwo s table kind q0 q1 values E lim n p (suc c) q.next
    one_on v a = record { fuel = a.fuel; going = step_node (eleven_at table p) 1 17 (suc (suc (suc (suc (suc a.fuel))))) c (rest_of table kind q0 q1 (15 - n) n values) y h (eleven_at_lem table p 1 (lit< tt)) a.going o v refl }

    zeroed : q.on ≡ false → AtOne s table kind q0 q1 values E lim n p c w → Going s E lim 18 (76 * (15 - n) + 72) (counted (suc c) (block_from table kind q0 q1 (15 - n) (n + 1) 0 true values)) q.next
    zeroed v a = going_as (ap (counted (suc c)) (rest_zero table kind q0 q1 (15 - n) n values)) (step_leaf (eleven_at table p) 1 17 (suc (suc (suc (suc (suc a.fuel))))) c (rest_of table kind q0 q1 (15 - n) n values) y h (eleven_at_lem table p 1 (lit< tt)) a.going o v refl)

    one_off : {at : ℕ} {f : Wide} → q.on ≡ false → n + 1 < 16 → at ≡ probability_place kind (n + 1) 0 → f ≡ wide.fill_of s q.next → AtOne s table kind q0 q1 values E lim n p c w → AtOne s table kind q0 q1 values E lim (n + 1) at (suc c) f
    one_off {at} {f} v l e g a =
        let i : 15 - n ≡ suc (15 - (n + 1)) = omega arith in
        let j : block_from table kind q0 q1 (15 - n) (n + 1) 0 true values ≡ (walk 32 (eleven_at table at) token_tree 1 >>= rest_of table kind q0 q1 (15 - (n + 1)) (n + 1) values) =
        ap (λ (x : ℕ). block_from table kind q0 q1 x (n + 1) 0 true values) i
        ∙ block_asks table kind q0 q1 (15 - (n + 1)) (n + 1) values 0 true
        ∙ ap (λ (x : ℕ). walk 32 (eleven_at table x) token_tree 1 >>= rest_of table kind q0 q1 (15 - (n + 1)) (n + 1) values) (sym e) in
        let b = going_weaken 18 (76 * (15 - (n + 1)) + 72 + 4) (going_as (ap (counted (suc c)) j) (zeroed v a)) (omega arith) (omega arith) in
        record { fuel = 26; going = going_weaken 25 (76 * (15 - (n + 1)) + 72) (going_fill (76 * (15 - (n + 1)) + 72) b g) (lit≤ tt) (omega arith) }

    one_last : q.on ≡ false → n + 1 ≡ 16 → AtOne s table kind q0 q1 values E lim n p c w → AtEnd s table kind q0 q1 values E lim (suc c) q.next
    one_last v e a =
        let i : 15 - n ≡ 0 = omega arith in
        let j : block_from table kind q0 q1 (15 - n) (n + 1) 0 true values ≡ done (record { end = 16; values = values }) =
        ap (λ (x : ℕ). block_from table kind q0 q1 x (n + 1) 0 true values) i
        ∙ block_none table kind q0 q1 (n + 1) 0 true values
        ∙ ap (λ (x : ℕ). done (record { end = x; values = values })) e in
        going_weaken 0 0 (going_as (ap (counted (suc c)) j) (zeroed v a)) (omega arith) (omega arith)

-- the loop over them, from position n on: m is where it stands
module _ (s table : List ℕ) (kind n p : ℕ) (w : Wide) where
  pub record Zeroing (m at : ℕ) (q : Wide) : Type 0 where
    pub low : n ≤ m
    pub below : m < 16
    pub inside : at + 11 ≤ length table
    pub reach : (q0 q1 : ℕ) (values : List ℤ) (E : (Coefficients × ℕ) × Reader) (lim c : ℕ) → AtOne s table kind q0 q1 values E lim n p c w → AtOne s table kind q0 q1 values E lim m at (c + (m - n)) q

  pub zeroing_start : n < 16 → p + 11 ≤ length table → Zeroing n p w
  zeroing_start h i =
      record {
        low = omega arith;
        below = h;
        inside = i;
        reach = λ q0 q1 values E lim c a. let e : c ≡ c + (n - n) = omega arith in rw e at a;
      }

  module _ {m at : ℕ} {x : Wide} {b : Bit} (z : Zeroing m at x) (y : Bytes s) (h : get_or table (at + 1) 0 < 256) (o : b ≡ wide.wide_bit_of x (get_or table (at + 1) 0)) where
    pub zeroing_number : {places : List ℕ} {ahead : ℕ} → b.on ≡ true → places ≡ places_after_of kind → ahead ≡ get_or places m 0 → Zeroed s table kind n p w (record { n = m; place = at; ahead = ahead; next = b.next })
    zeroing_number v g f =
        record {
          low = z.low;
          high = omega (arith, z.below);
          inside = λ i. z.inside;
          ahead = λ i. f ∙ ap (λ (l : List ℕ). get_or l m 0) g;
          number = λ q0 q1 values E lim c i a. let e : suc (c + (m - n)) ≡ c + (m - n) + 1 = omega arith in rw e at (one_on s table kind q0 q1 values E lim y h o v (z.reach q0 q1 values E lim c a));
          ended = λ q0 q1 values E lim c i a. absurd (omega (arith, z.below));
        }

    pub zeroing_end : {place ahead : ℕ} → b.on ≡ false → m + 1 ≡ 16 → Zeroed s table kind n p w (record { n = 16; place = place; ahead = ahead; next = b.next })
    zeroing_end v k =
        record {
          low = omega (arith, z.low);
          high = omega arith;
          inside = λ i. absurd (omega arith);
          ahead = λ i. absurd (omega arith);
          number = λ q0 q1 values E lim c i a. absurd (omega arith);
          ended = λ q0 q1 values E lim c i a. let e : suc (c + (m - n)) ≡ c + (16 - n) = omega (arith, z.low) in rw e at (one_last s table kind q0 q1 values E lim y h o v k (z.reach q0 q1 values E lim c a));
        }

    pub zeroing_next : {here : ℕ} {f : Wide} → b.on ≡ false → m + 1 < 16 → here ≡ probability_place kind (m + 1) 0 → here + 11 ≤ length table → f ≡ wide.fill_of s b.next → Zeroing (m + 1) here f
    zeroing_next {here} {f} v l e i g =
        record {
          low = omega (arith, z.low);
          below = l;
          inside = i;
          reach = λ q0 q1 values E lim c a. let k : suc (c + (m - n)) ≡ c + (m + 1 - n) = omega (arith, z.low) in rw k at (one_off s table kind q0 q1 values E lim y h o v l e g (z.reach q0 q1 values E lim c a));
        }

-- ---- a number from node 2 on, two symbols in: its value, and the context after it
depths_deep : all_below 10 (λ i. leb 3 (get_or token_depths (i + 2) 0)) ≡ true
depths_deep = refl

depth_deep : (t : ℕ) → 2 ≤ t → t < 12 → 3 ≤ get_or token_depths t 0
depth_deep t l h = let e : t ≡ t - 2 + 2 = omega arith in rw e (leb-true _ _ (all_below_lem (λ i. leb 3 (get_or token_depths (i + 2) 0)) 10 depths_deep (t - 2) (omega arith)))

above_walked : depths_of 4 0 (λ t. get_or token_depths t 0 - 3) token_tree 3 ≡ true
above_walked = refl

one_is : (h : ℕ → ℕ → Reading Coefficients) → (magnitude 2 >>= h (context_after 2)) ≡ h 1 1
unfolding magnitude context_after
one_is h = refl

module _ (s table : List ℕ) (p : ℕ) {w : Wide} {q : Bit} (y : Bytes s) (z : Bytes table) (o : q ≡ wide.wide_bit_of w (get_or table (p + 2) 0)) where
  pub counting_one : q.on ≡ false → Counting s (eleven_at table p) w (record { value = 1; near = 11; reads = 3; next = q.next })
  counting_one v =
      record {
        ctx = 1;
        few = lit< tt;
        place = refl;
        small = lit≤ tt;
        least = lit≤ tt;
        leads =
            λ E lim n c m f h i a.
            let e : suc (suc (suc c)) ≡ c + 3 = omega arith in
            let b = step_leaf (eleven_at table p) 2 10 (suc (suc (suc (suc m)))) (suc (suc c)) f y (z (p + 2)) (eleven_at_lem table p 2 (lit< tt)) a o v refl in
            (going_weaken 8 n (going_as (λ j. counted (e j) ((i 2 (lit≤ tt) ∙ one_is h) j)) b) (lit≤ tt) (omega arith), going_fresh 10 y (z (p + 2)) a o);
      }

  pub counting_more : {t v r : ℕ} {x k next : Wide} → q.on ≡ true → 3 ≤ t → t < 12 → ((m : ℕ) → WideReads s 0 4 (walk (suc (suc (suc (suc m)))) (eleven_at table p) token_tree 3) q.next t x) → WideReads s 0 64 (magnitude t) x v k → v ≤ 2114 → r ≡ get_or token_symbols t 0 → next ≡ wide.fill_of s k → Counting s (eleven_at table p) w (record { value = v; near = 22; reads = r; next = next })
  counting_more {t} {v} {r} {x} {k} {next} b d e g j few u fl =
      record {
        ctx = 2;
        few = lit< tt;
        place = refl;
        small = few;
        least = omega (arith, u, symbols_most t e);
        leads =
            λ E lim n c m f h i a.
            let ps = eleven_at table p in
            let c3 = suc (suc (suc c)) in
            let a1 = step_node (eleven_at table p) 2 10 (suc (suc (suc (suc m)))) (suc (suc c)) f y (z (p + 2)) (eleven_at_lem table p 2 (lit< tt)) a o b refl in
            let a2 = going_cost (n + 68) 4 c3 (walk (suc (suc (suc (suc m)))) ps token_tree 3) f (costs_walk 4 (suc (suc (suc (suc m)))) 0 (λ t. get_or token_depths t 0 - 3) ps token_tree 3 (omega arith) above_walked) a1 (g m) (lit≤ tt) (omega arith) in
            let c4 = c3 + (get_or token_depths t 0 - 3) in
            let a3 = going_cost (n + 4) 64 c4 (magnitude t) (h (context_after t)) (magnitude_costs t) (going_as (ap (counted c4) (i t (omega arith))) a2) j (lit≤ tt) (omega arith) in
            let s1 : c4 + bits_of t ≡ c + r = omega (arith, u, symbols_is t (omega arith) e, depth_deep t (omega arith) e) in
            let s2 : context_after t ≡ 2 = sym (context_more t (λ h. omega arith)) in
            let f1 = going_fresh 10 y (z (p + 2)) a o in
            let f2 = call_fresh a1 f1 (walk_below 4 (suc (suc (suc (suc m)))) 12 ps token_tree 3 (omega arith) (eleven_bytes table p z) refl) (g m) (lit≤ tt) (omega arith) in
            let f3 = call_fresh a2 f2 (magnitude_within t (omega arith) (omega arith)) j (lit≤ tt) (omega arith) in
            (going_weaken 8 n (going_as (λ j. counted (s1 j) (h (s2 j) v)) (going_fill n a3 fl)) (lit≤ tt) (omega arith), omega (arith, ap (λ (w : Wide). w.top) fl, fill_fresh s k, f3));
      }

-- its sign
sign_read : {s : List ℕ} {E : (Coefficients × ℕ) × Reader} {lim n : ℕ} {w : Wide} → Bytes s → (c : ℕ) (f : Bool → Reading Coefficients) → Going s E lim 8 n (counted c (symbol 128 >>= f)) w → Going s E lim 1 n (counted (suc c) (f (wide.wide_bit_of w 128).on)) (wide.wide_bit_of w 128).next
unfolding counted
sign_read y c f a = going_bit 0 y (lit< tt) a refl refl

-- ---- a block
-- the loop: at position n, with 76 bytes' way for each that is left; the list has the values so far
module _ (s table : List ℕ) (kind q0 q1 : ℕ) (g : Reading Coefficients) (start : Wide) (at step : ℕ) (old : List ℤ) (first : ℕ) where
  -- what all of it gives
  abbrev whole : Reader → (Coefficients × ℕ) × Reader
  whole r = run_padded (counted 0 g) s r

  -- from every reader that the start stands for
  abbrev Each : (Reader → Type 0) → Type 0
  Each P = (r : Reader) → Sim s start r → start.at + 1216 < 2 ^ 64 → P r

  pub record Blocking (n here reads : ℕ) (w : Wide) (out : List ℤ) : Type 0 where
    pub low : first ≤ n
    pub high : n ≤ 16
    pub ctx : ℕ
    pub few : ctx < 3
    pub place : here ≡ probability_place kind n ctx
    pub most : reads ≤ 18 * (n - first)
    pub values : List ℤ
    pub long : length values ≡ 16
    pub kept : out ≡ strewn old at step values
    pub going : Each (λ r. Going s (whole r) (start.at + 1216) 0 (76 * (16 - n)) (counted (reads + (n - first)) (block_from table kind q0 q1 (16 - n) n ctx false values)) w)

  -- the list is as long as it was
  pub blocking_long : {n here reads : ℕ} {w : Wide} {out : List ℤ} → Blocking n here reads w out → length out ≡ length old
  blocking_long c = ap length c.kept ∙ length_strewn old at step c.values

  -- the eleven probabilities stand in the table
  pub blocking_inside : {n here reads : ℕ} {w : Wide} {out : List ℤ} → Blocking n here reads w out → length table ≡ probability_count → kind < 4 → here + 11 ≤ length table
  blocking_inside {n} c l k = omega (arith, l, c.place, place_below kind n c.ctx k c.few)

  module _ (apart : 1 ≤ step) (room : at + 15 * step < length old) {n here reads : ℕ} {w : Wide} {out : List ℤ} (c : Blocking n here reads w out) where
    -- what the call promises, of a list that was stored
    promised : {end symbols : ℕ} {next : Wide} (f : List ℤ → Reading Coefficients) → g ≡ f (spots_of old at step) → WideReads s 0 1216 (counted 0 g) start (record { end = end; values = c.values }, symbols) next → BlockCoded s start f at step old out (record { end = end; reads = symbols; next = next })
    promised {end} {symbols} {next} f e h =
        let v : spots_of out at step ≡ c.values = ap (λ (o : List ℤ). spots_of o at step) c.kept ∙ spots_strewn old at step apart room c.values c.long in
        record { read = rw (sym e, v) h; kept = c.kept ∙ ap (strewn old at step) (sym v) }

    pub blocking_end : (f : List ℤ → Reading Coefficients) → g ≡ f (spots_of old at step) → 16 ≤ n → BlockCoded s start f at step old out (record { end = n; reads = reads + (n - first); next = w })
    blocking_end f e l =
        let i : 16 - n ≡ 0 = omega arith in
        promised f e (λ r m k b. going_told (going_as (ap (counted (reads + (n - first))) (ap (λ (x : ℕ). block_from table kind q0 q1 x n c.ctx false c.values) i ∙ block_none table kind q0 q1 n c.ctx false c.values)) (c.going r m b)) refl refl)

    -- whether it goes on
    module _ {v : Wide} {q : Bit} (y : Bytes s) (h : get_or table here 0 < 256) (l : n < 16) (fl : v ≡ wide.fill_of s w) (o : q ≡ wide.wide_bit_of v (get_or table here 0)) where
      asked : Each (λ r. Going s (whole r) (start.at + 1216) 32 (76 * (15 - n) + 72) (counted (reads + (n - first)) (walk 32 (eleven_at table here) token_tree 0 >>= rest_of table kind q0 q1 (15 - n) n c.values)) v)
      asked r m b =
          let i : 16 - n ≡ suc (15 - n) = omega arith in
          let j : block_from table kind q0 q1 (16 - n) n c.ctx false c.values ≡ (walk 32 (eleven_at table here) token_tree 0 >>= rest_of table kind q0 q1 (15 - n) n c.values) =
          ap (λ (x : ℕ). block_from table kind q0 q1 x n c.ctx false c.values) i
          ∙ block_asks table kind q0 q1 (15 - n) n c.values c.ctx false
          ∙ ap (λ (x : ℕ). walk 32 (eleven_at table x) token_tree 0 >>= rest_of table kind q0 q1 (15 - n) n c.values) (sym c.place) in
          going_fill (76 * (15 - n) + 72) (going_weaken 0 (76 * (15 - n) + 72 + 4) (going_as (ap (counted (reads + (n - first))) j) (c.going r m b)) (omega arith) (omega arith)) fl

      pub blocking_stops : (f : List ℤ → Reading Coefficients) → g ≡ f (spots_of old at step) → q.on ≡ false → BlockCoded s start f at step old out (record { end = n; reads = reads + (n - first) + 1; next = q.next })
      blocking_stops f z i =
          let k : reads + (n - first) + 1 ≡ suc (reads + (n - first)) = omega arith in
          promised f z (λ r m a b. going_told (going_as (ap (counted (suc (reads + (n - first)))) (rest_ends table kind q0 q1 (15 - n) n c.values)) (step_leaf (eleven_at table here) 0 24 31 (reads + (n - first)) (rest_of table kind q0 q1 (15 - n) n c.values) y h (first_of table here) (asked r m b) o i refl)) refl k)

      pub blocking_goes : q.on ≡ true → Each (λ r. AtOne s table kind q0 q1 c.values (whole r) (start.at + 1216) n here (suc (reads + (n - first))) q.next)
      blocking_goes i r m b = record { fuel = 25; going = step_node (eleven_at table here) 0 24 31 (reads + (n - first)) (rest_of table kind q0 q1 (15 - n) n c.values) y h (first_of table here) (asked r m b) o i refl }

      module _ {z : Zeros} (k : Zeroed s table kind n here q.next z) where
        pub blocking_zeros : (f : List ℤ → Reading Coefficients) → g ≡ f (spots_of old at step) → q.on ≡ true → z.n ≡ 16 → BlockCoded s start f at step old out (record { end = 16; reads = reads + (16 - first) + 1; next = z.next })
        blocking_zeros f d i j =
            let u : reads + (16 - first) + 1 ≡ suc (reads + (n - first)) + (16 - n) = omega (arith, c.low) in
            promised f d (λ r m a b. let x = k.ended q0 q1 c.values (whole r) (start.at + 1216) (suc (reads + (n - first))) j (blocking_goes i r m b) in going_told (going_weaken 0 0 x (omega arith) (omega arith)) refl u)

        -- the list keeps the number as the machine reads it back
        pub blocking_number : {d : Number} {a : ℤ} {x : Wide} {then t u : ℕ} → q.on ≡ true → z.n < 16 → (p : Counting s (eleven_at table z.place) z.next d) → then ≡ probability_place kind (z.n + 1) p.ctx → t ≡ quantizer_at z.n q0 q1 → x ≡ (wide.half_of d.next).next → a ≡ wrap_z (sign_of (wide.half_of d.next).on (d.value * t)) → SixteenBits a → u ≡ get_or zigzag z.n 0 → Blocking (z.n + 1) then (reads + d.reads) x (set out (at + step * u) (round w16 a))
        blocking_number {d} {a} {x} {then} {t} {u} i j p e3 e4 e5 e6 six e7 =
            let w : round w16 a ≡ a = (there w16 six tt).eq in
            record {
              low = omega (arith, c.low, k.low);
              high = omega arith;
              ctx = p.ctx;
              few = p.few;
              place = e3;
              most = omega (arith, c.most, c.low, k.low, p.least);
              values = set c.values (get_or zigzag z.n 0) a;
              long = length-set c.values (get_or zigzag z.n 0) a ∙ c.long;
              kept = rw (w, e7, c.kept) (strewn_set old at step apart room c.values (get_or zigzag z.n 0) a c.long (zigzag_below z.n));
              going =
                  λ r m b.
                  let a1 = k.number q0 q1 c.values (whole r) (start.at + 1216) (suc (reads + (n - first))) j (blocking_goes i r m b) in
                  let left = 15 - z.n in
                  let way = 76 * left in
                  let s1 : suc (reads + (n - first)) + (z.n - n) + 1 ≡ suc (suc (reads + (z.n - first))) = omega (arith, c.low, k.low) in
                  let a2 = going_as (ap (λ (v : ℕ). counted v (walk (suc (suc (suc (suc (suc a1.fuel))))) (eleven_at table z.place) token_tree 2 >>= rest_of table kind q0 q1 left z.n c.values)) s1) a1.going in
                  let a3 = p.leads (whole r) (start.at + 1216) way (reads + (z.n - first)) a1.fuel (rest_of table kind q0 q1 left z.n c.values) (sign_on table kind q0 q1 left z.n c.values) (rest_number table kind q0 q1 left z.n c.values) a2 in
                  let half = going_half a3.0 a3.1 in
                  let a4 = sign_read y (reads + (z.n - first) + d.reads) (λ v. block_from table kind q0 q1 left (z.n + 1) p.ctx false (set c.values (get_or zigzag z.n 0) (wrap_z (sign_of v (d.value * quantizer_at z.n q0 q1))))) a3.0 in
                  let s2 : suc (reads + (z.n - first) + d.reads) ≡ reads + d.reads + (z.n + 1 - first) = omega (arith, c.low, k.low) in
                  let n1 : left ≡ 16 - (z.n + 1) = omega arith in
                  let v1 : wrap_z (sign_of (wide.wide_bit_of d.next 128).on (d.value * quantizer_at z.n q0 q1)) ≡ a = sym (e6 ∙ (λ v. wrap_z (sign_of (half v).on (d.value * e4 v)))) in
                  let a5 = going_as (λ v. counted (s2 v) (block_from table kind q0 q1 (n1 v) (z.n + 1) p.ctx false (set c.values (get_or zigzag z.n 0) (v1 v)))) a4 in
                  rw (e5 ∙ ap (λ (v : Bit). v.next) half) (going_weaken 0 (76 * (16 - (z.n + 1))) a5 (omega arith) (omega arith));
            }

pub blocking_start : (s table : List ℕ) (kind q0 q1 : ℕ) {ctx first : ℕ} {here : ℕ} {at step : ℕ} {old : List ℤ} {w : Wide} → ctx < 3 → first ≤ 1 → here ≡ probability_place kind first ctx → 1 ≤ step → at + 15 * step < length old → Blocking s table kind q0 q1 (block table kind q0 q1 ctx first (spots_of old at step)) w at step old first first here 0 w old
blocking_start s table kind q0 q1 {ctx} {first} {here} {at} {step} {old} {w} h l e apart room =
    let b : Reading Coefficients = block table kind q0 q1 ctx first (spots_of old at step) in
    let none : 0 ≡ 0 + (first - first) = omega arith in
    record {
      low = omega arith;
      high = omega arith;
      ctx = ctx;
      few = h;
      place = e;
      most = omega arith;
      values = spots_of old at step;
      long = length_spots old at step;
      kept = strewn_same old at step apart room;
      going =
          λ r m f.
          let c : Going s (run_padded (counted 0 b) s r) (w.at + 1216) 0 1216 (counted 0 b) w = going_start (counted 0 b) r m (omega arith) f in
          going_weaken 0 (76 * (16 - first)) (going_as (ap (λ (i : ℕ). counted i b) none) c) (omega arith) (omega arith);
    }
