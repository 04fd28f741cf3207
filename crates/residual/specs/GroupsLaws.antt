-- The laws of the groups: which parts they are, one block that was read, and the turns of the loops over blocks, rows and groups.
use Rattle.std.specs.Prelude.{◌+◌, ◌-◌, ◌*◌, ◌/◌, ◌%◌, ◌^◌, ◌≤◌, ◌<◌, ◌≡◌, ◌≢◌, ◌&&◌}
use Rattle.numbers.specs.Words.{ℕ, zero, suc, add-one, add-suc, add-zero, mul-le-mul_left, mul-suc, arith, refl, sym, ◌∙◌, ap, ap₂, Bool, true, false, inl, ltb, leb, le-ltb, lt-ltb, bit_of, List, length, get_or, set, replicate, get_or-set_same, set-get_or, set-set, length_placed, placed_in, placed_off, all_below, ℤ, pos}
use Rattle.header.specs.declared.quantizers.Factors.{Factors}
use Rattle.reader.specs.ReadingLaws.{Bytes}
use Rattle.reader.specs.Reading.{Reading, done}
use Rattle.reader.specs.declared.boolean.Reader.{Reader}
use Rattle.coefficients.specs.Block.{Coefficients, block}
use Rattle.coefficients.specs.BlockLaws.{block_within}
use Rattle.residual.specs.Fast.{WideBlock, spots_of, strewn, BlockCoded}
use Rattle.residual.specs.FastLaws.{coded_long, spots_same, spots_zeros, length_strewn}
use Rattle.transform.specs.declared.Transformed.{Transformed}
use Rattle.transform.specs.Transform.{samples_of, transform_of}
use Rattle.transform.specs.TransformLaws.{transform_good}
use Rattle.wide.specs.Counted.{counted}
use Rattle.wide.specs.CountedLaws.{within_counted}
use Rattle.wide.specs.Padded.{run_padded}
use Rattle.wide.specs.PaddedLaws.{padded_within}
use Rattle.wide.specs.WideLaws.{Sim}
use Rattle.wide.specs.WideRuns.{WideReads, Gave, Going, going_start, going_as, going_weaken, going_counted, going_next, going_told}
use Rattle.wide.specs.declared.wide.Wide.{Wide}
use Rattle.residual.specs.Residual.{Kind, FlagsAt, Model, Flags, initial, second_kind_of, kind_of, coordinates, coded, second_place, spread, stored, sixteen_at, zero_of, residual_of}
use Rattle.residual.specs.ResidualLaws.{kind_in, kind_luma, kind_chroma, flags_flagged, zeros_sixteen, sixteen_fit}
use Rattle.residual.specs.Quick.{Spots, Wider, block_spots, spots_at, number_place, in_blocks, model_at, kind_at, place_at, quick_part, parts_from}
use Rattle.residual.specs.QuickLaws.{residual_parts, old_at, after_at, part_coded, block_luma, block_chroma, number_block, length_in_blocks, in_blocks_at, in_blocks_spaced, in_blocks_second, in_blocks_firsts, in_blocks_zeros, second_numbers}
use Rattle.residual.specs.Symbols.{Ranged}
use Rattle.residual.specs.Groups.{start_of, group_of, GroupFits, settled_of, none_after, firsts_of, zeros_at, model_in, Ready, Parting, Passed}
use Rattle.residual.specs.declared.quick.Group.{Group}

-- ---- the groups, as the code tells them
module _ (f : Factors) (small : Bool) where
  pub group_second : {k : Kind} (g : ℕ) → g ≡ 0 → k ≡ second_kind_of f → record { kind = k; side = 1; flag = 8; at = 384; step = 1 } ≡ group_of f small g
  group_second g z e = rw (z, e) refl

  pub group_luma : {k : Kind} (g : ℕ) → g ≡ 1 → k ≡ kind_of f small 0 → record { kind = k; side = 4; flag = 0; at = 0; step = 16 } ≡ group_of f small g
  group_luma g z e = rw (z, e) refl

  pub group_chroma : {k : Kind} (g : ℕ) → (g ≢ 0) → (g ≢ 1) → k ≡ kind_of f small 16 → record { kind = k; side = 2; flag = 2 * g; at = 248 + 4 * g; step = 8 } ≡ group_of f small g
  group_chroma zero h i e = absurd (h refl)
  group_chroma (suc zero) h i e = absurd (i refl)
  group_chroma (suc (suc c)) h i e =
      let x : 2 * suc (suc c) ≡ 4 + 2 * c = omega arith in
      let y : 248 + 4 * suc (suc c) ≡ 256 + 4 * c = omega arith in
      λ p. record { kind = e p; side = 2; flag = x p; at = y p; step = 8 }

  fits : (g : ℕ) → g < 4 → GroupFits (group_of f small g)
  fits zero h = record { kind = omega arith; first = omega arith; flag = omega arith; low = omega arith; high = omega arith; last = omega arith }
  fits (suc zero) h = record { kind = (kind_in f small 0).0; first = (kind_in f small 0).1; flag = omega arith; low = omega arith; high = omega arith; last = omega arith }
  fits (suc (suc c)) h = record { kind = (kind_in f small 16).0; first = (kind_in f small 16).1; flag = omega arith; low = omega arith; high = omega arith; last = omega arith }

  pub group_fits : {k : Group} (g : ℕ) → g < 4 → k ≡ group_of f small g → GroupFits k
  group_fits g h e = rw e (fits g h)

-- ---- a block of a group: row y, column x of its square
square : (n : ℕ) {y x : ℕ} → y < n → x < n → n * y + x < n * n
square n {y} {x} h l = omega (arith, mul-suc n y, mul-le-mul_left {m = suc y} {n = n} n (omega arith))

-- its numbers are among the 400
pub spot_room : {k : Group} → GroupFits k → {y x : ℕ} → y < k.side → x < k.side → k.at + k.side * y + x + 15 * k.step < 400
spot_room {k} h l m = omega (arith, h.last, square k.side l m)

pub row_room : {k : Group} → GroupFits k → {y : ℕ} → y < k.side → k.at + k.side * y < 400
row_room {k} h l = let z : 0 < k.side = omega arith in omega (arith, spot_room h l z)

-- part j is that block: what it goes by, its flags, where its numbers go
record PartOf (f : Factors) (small : Bool) (g : ℕ) (k : Group) (y x j : ℕ) : Type 0 where
  kind : k.kind ≡ kind_at f small j
  place : record { x = k.flag + x; y = k.flag + y } ≡ place_at j
  spots : record { at = k.at + k.side * y + x; step = k.step } ≡ spots_at j
  first : g ≡ 0 → j ≡ 0
  later : 1 ≤ g → 1 ≤ j
  below : j < 25

module _ (f : Factors) (small : Bool) {y x : ℕ} where
  second_part : (j : ℕ) → j ≡ 0 → y ≡ 0 → x ≡ 0 → PartOf f small 0 (group_of f small 0) y x j
  second_part j e h l = rw (e, h, l) (record { kind = refl; place = refl; spots = refl; first = λ z. refl; later = λ z. absurd (omega arith); below = omega arith })

  luma_part : (i j : ℕ) → j ≡ suc i → i ≡ 4 * y + x → y < 4 → x < 4 → PartOf f small 1 (group_of f small 1) y x j
  unfolding coordinates
  luma_part i j e n h l =
      let below : i < 16 = omega arith in
      let a : 0 + x ≡ i % 4 = omega arith in
      let b : 0 + y ≡ i / 4 = omega arith in
      let c : 0 + 4 * y + x ≡ i = omega arith in
      rw e (record {
        kind = kind_luma f small 0 (omega arith) ∙ sym (kind_luma f small i below);
        place = (λ p. record { x = a p; y = b p }) ∙ sym (rw (lt-ltb i 16 below, coordinates));
        spots = (λ p. record { at = c p; step = 16 }) ∙ sym (block_luma i below);
        first = λ z. absurd (omega arith);
        later = λ z. omega arith;
        below = omega arith;
      })

  chroma_part : (c i j : ℕ) → j ≡ suc i → i ≡ 16 + 4 * c + (2 * y + x) → c < 2 → y < 2 → x < 2 → PartOf f small (suc (suc c)) (group_of f small (suc (suc c))) y x j
  unfolding coordinates
  chroma_part c i j e n m h l =
      let past : 16 ≤ i = omega arith in
      let a : 4 + 2 * c + x ≡ 4 + (i - 16) / 4 * 2 + i % 2 = omega arith in
      let b : 4 + 2 * c + y ≡ 4 + (i - 16) / 4 * 2 + i % 4 / 2 = omega arith in
      let d : 256 + 4 * c + 2 * y + x ≡ 240 + i = omega arith in
      rw e (record {
        kind = kind_chroma f small 16 (omega arith) ∙ sym (kind_chroma f small i past);
        place = (λ p. record { x = a p; y = b p }) ∙ sym (rw (le-ltb i 16 past, coordinates));
        spots = (λ p. record { at = d p; step = 8 }) ∙ sym (block_chroma i past);
        first = λ z. absurd (omega arith);
        later = λ z. omega arith;
        below = omega arith;
      })

  part_of : (g : ℕ) → g < 4 → y < (group_of f small g).side → x < (group_of f small g).side → PartOf f small g (group_of f small g) y x (start_of g + ((group_of f small g).side * y + x))
  part_of zero l h m = second_part _ (omega arith) (omega arith) (omega arith)
  part_of (suc zero) l h m = luma_part (4 * y + x) _ (omega arith) refl h m
  part_of (suc (suc c)) l h m = chroma_part c (16 + 4 * c + (2 * y + x)) _ (omega arith) refl (omega arith) h m

-- ---- numbers that are all 0
all_same : (n : ℕ) (a b : ℕ → Bool) → ((i : ℕ) → i < n → a i ≡ b i) → all_below n a ≡ all_below n b
all_same zero a b h = refl
all_same (suc n) a b h = ap₂ ◌&&◌ (h n (omega arith)) (all_same n a b (λ i l. h i (omega arith)))

pub zeros_next : (l : List ℤ) (at i : ℕ) {b z : Bool} → b ≡ zeros_at l at i → z ≡ zero_of (get_or l (at + i) (pos 0)) → z && b ≡ zeros_at l at (i + 1)
zeros_next l at i e h = rw (e, h, add-one)

-- the first coefficients, one block more
firsts_stored : (l c : List ℤ) (i : ℕ) → 16 * i + 16 ≤ length l → firsts_of (suc i) (stored l (16 * i) c) ≡ zero_of (get_or c 0 (pos 0)) && firsts_of i l
firsts_stored l c i h =
    let f : ℕ → ℤ = λ j. get_or c j (pos 0) in
    ap₂ ◌&&◌
    (ap zero_of (ap (λ (n : ℕ). get_or (stored l (16 * i) c) n (pos 0)) (sym (add-zero (16 * i))) ∙ placed_in l (16 * i) f 16 0 (pos 0) h (omega arith)))
    (all_same i _ _ (λ k m. ap zero_of (placed_off l (16 * i) f 16 (16 * k) (pos 0) (inl (omega arith)))))

swapped : (a b z f : Bool) → (a && b) && (z && f) ≡ (a && f) && (b && z)
swapped false b z f = refl
swapped true false z true = refl
swapped true false z false = refl
swapped true true true true = refl
swapped true true true false = refl
swapped true true false true = refl
swapped true true false false = refl

-- ---- a block that was read
-- the numbers of a second-order block are numbers of sixteen bits, which the transform takes
module _ (table : List ℕ) (f : Factors) (small : Bool) (y : Bytes table) (s : List ℕ) (r : Reader) where
  samples_at : (j : ℕ) (m : Model) {c : Coefficients} {e : ℕ} → (c, e) ≡ (run_padded (counted 0 (coded table (kind_at f small j) (place_at j) m.top m.left (old_at table f small j m))) s r).0 → j ≡ 0 → (transform_of c.values true).samples ≡ samples_of true c.values
  samples_at zero m {c} h z =
      let w = padded_within s r (within_counted 0 (block_within table 1 f.y2dc f.y2ac y 0 (get_or m.top 8 0 + get_or m.left 8 0) (replicate 16 (pos 0)) (omega arith) zeros_sixteen)) in
      let e : c ≡ (run_padded (counted 0 (coded table (second_kind_of f) second_place m.top m.left (replicate 16 (pos 0)))) s r).0.0 = ap (λ (x : Coefficients × ℕ). x.0) h in
      ap (λ (t : Transformed). t.samples) (transform_good true (sixteen_fit (rw (sym e) at w.values)))
  samples_at (suc i) m h z = absurd (omega arith)

-- the numbers that it is read from
old_in : (table : List ℕ) (f : Factors) (small : Bool) (m : Wider) (flat : List ℤ) (g j : ℕ) → (g ≡ 0 → j ≡ 0) → j < 25 → (j ≡ 0 → flat ≡ replicate 400 (pos 0)) → old_at table f small j (model_in g j m flat) ≡ spots_of flat (spots_at j).at (spots_at j).step
old_in table f small m flat g zero h l z = rw (z refl) (sym (spots_zeros 400 384 1))
old_in table f small m flat zero (suc i) h l z = absurd (omega (arith, h refl))
old_in table f small m flat (suc g) (suc i) h l z =
    spots_same (in_blocks flat) flat (16 * i) (block_spots i).at (block_spots i).step
    (λ k h. in_blocks_at flat (16 * i + k) (omega arith) ∙ ap (λ (n : ℕ). get_or flat n (pos 0)) (sym (number_block i k h)))

-- what it leaves
module _ (table : List ℕ) (f : Factors) (small : Bool) (m : Wider) (flat one : List ℤ) (end : ℕ) (q : Wider) where
  abbrev read_at : (j : ℕ) → List ℤ
  read_at j = spots_of one (spots_at j).at (spots_at j).step

  numbers_second : one ≡ strewn flat 384 1 (read_at 0) → length one ≡ 400 → (transform_of (read_at 0) true).samples ≡ samples_of true (read_at 0) → in_blocks (settled_of 0 one) ≡ spread (in_blocks flat) (samples_of true (read_at 0)) 16
  numbers_second k o h =
      let c : List ℤ = read_at 0 in
      in_blocks_firsts one (transform_of (sixteen_at one 384) true).samples 16 (omega arith) (omega arith)
      ∙ ap₂ (λ (x y : List ℤ). spread x y 16) (ap in_blocks k ∙ in_blocks_second flat (λ j. get_or c j (pos 0)) 16)
      (ap (λ (x : List ℤ). (transform_of x true).samples) (second_numbers one) ∙ h)

  numbers_block : (i : ℕ) → i < 24 → length flat ≡ 400 → one ≡ strewn flat (block_spots i).at (block_spots i).step (read_at (suc i)) → in_blocks one ≡ stored (in_blocks flat) (16 * i) (read_at (suc i))
  numbers_block i l n k = ap in_blocks k ∙ in_blocks_spaced flat i (λ j. get_or (read_at (suc i)) j (pos 0)) 16 l (omega arith) (omega arith)

  empty_block : (i : ℕ) → i < 24 → in_blocks one ≡ stored (in_blocks flat) (16 * i) (read_at (suc i)) → q.empty ≡ m.empty && leb end 1 → q.empty && firsts_of (suc i) (in_blocks one) ≡ (m.empty && firsts_of i (in_blocks flat)) && (leb end 1 && zero_of (get_or (read_at (suc i)) 0 (pos 0)))
  empty_block i l k e =
      let w : 16 * i + 16 ≤ length (in_blocks flat) = rw (length_in_blocks flat) (omega arith) in
      ap₂ ◌&&◌ e (ap (firsts_of (suc i)) k ∙ firsts_stored (in_blocks flat) (read_at (suc i)) i w)
      ∙ swapped m.empty (leb end 1) (zero_of (get_or (read_at (suc i)) 0 (pos 0))) (firsts_of i (in_blocks flat))

  model_after : (g j : ℕ) → (g ≡ 0 → j ≡ 0) → (1 ≤ g → 1 ≤ j) → j < 25 → length flat ≡ 400 → length one ≡ 400 → one ≡ strewn flat (spots_at j).at (spots_at j).step (read_at j) → (j ≡ 0 → (transform_of (read_at j) true).samples ≡ samples_of true (read_at j))
      → q.top ≡ set m.top (place_at j).x (bit_of (ltb (kind_at f small j).first end)) → q.left ≡ set m.left (place_at j).y (bit_of (ltb (kind_at f small j).first end)) → q.empty ≡ m.empty && leb end 1
      → model_in g (suc j) q one ≡ after_at table f small j (model_in g j m flat) (record { end = end; values = read_at j })
  model_after zero zero h i l n o k z t u e = let v = numbers_second k o (z refl) in (λ p. record { top = t p; left = u p; coefficients = v p; empty = true })
  model_after zero (suc i) h d l n o k z t u e = absurd (omega (arith, h refl))
  model_after (suc g) zero h d l n o k z t u e = absurd (omega (arith, d (omega arith)))
  model_after (suc g) (suc i) h d l n o k z t u e =
      let v = numbers_block i (omega arith) n k in
      let w = empty_block i (omega arith) v e in
      (λ p. record { top = t p; left = u p; coefficients = v p; empty = w p })

-- THE LAW of a block
module _ {s table : List ℕ} {f : Factors} {small : Bool} {whole : Reading Model} {start : Wide} {g j y x : ℕ} {k : Group} {m : Wider} {flat : List ℤ} (a : Parting s table f small whole start g j m flat) (p : PartOf f small g k y x j) (v : Bytes table) (n : length flat ≡ 400) where
  parting_block : {ctx : ℕ} {one : List ℤ} {b : WideBlock} {top left : List ℕ} {empty : Bool} → ctx ≡ get_or m.top (k.flag + x) 0 + get_or m.left (k.flag + y) 0
      → BlockCoded s m.next (block table k.kind.kind k.kind.q0 k.kind.q1 ctx k.kind.first) (k.at + k.side * y + x) k.step flat one b
      → top ≡ set m.top (k.flag + x) (bit_of (ltb k.kind.first b.end)) → left ≡ set m.left (k.flag + y) (bit_of (ltb k.kind.first b.end)) → empty ≡ m.empty && leb b.end 1
      → Parting s table f small whole start g (suc j) (record { next = b.next; reads = m.reads + b.reads; top = top; left = left; empty = empty }) one
  unfolding parts_from
  parting_block {ctx} {one} {b} {top} {left} {empty} ec c et el ee = go a.more a.sum a.going
    where
      q : Wider
      q = record { next = b.next; reads = m.reads + b.reads; top = top; left = left; empty = empty }

      old : Model
      old = model_in g j m flat

      at : (kind : Kind) (o : FlagsAt) (t : Spots) → kind ≡ kind_at f small j → o ≡ place_at j → t ≡ spots_at j → BlockCoded s m.next (coded table kind o m.top m.left) t.at t.step flat one b → BlockCoded s m.next (coded table (kind_at f small j) (place_at j) m.top m.left) (spots_at j).at (spots_at j).step flat one b
      at kind o t d e h c = rw (d, e, h) at c

      d : BlockCoded s m.next (coded table (kind_at f small j) (place_at j) m.top m.left) (spots_at j).at (spots_at j).step flat one b
      d = at k.kind _ _ p.kind p.place p.spots (rw ec at c)

      from : old_at table f small j old ≡ spots_of flat (spots_at j).at (spots_at j).step
      from = old_in table f small m flat g j p.first p.below a.zeros

      long : length one ≡ 400
      long = ap length d.kept ∙ length_strewn flat (spots_at j).at (spots_at j).step (spots_of one (spots_at j).at (spots_at j).step) ∙ n

      flag : (kind : Kind) (o : FlagsAt) → kind ≡ kind_at f small j → o ≡ place_at j → top ≡ set m.top o.x (bit_of (ltb kind.first b.end)) → left ≡ set m.left o.y (bit_of (ltb kind.first b.end))
          → (top ≡ set m.top (place_at j).x (bit_of (ltb (kind_at f small j).first b.end))) × (left ≡ set m.left (place_at j).y (bit_of (ltb (kind_at f small j).first b.end)))
      flag kind o e h t l = (rw (e, h) at t, rw (e, h) at l)

      model : (j ≡ 0 → (transform_of (spots_of one (spots_at j).at (spots_at j).step) true).samples ≡ samples_of true (spots_of one (spots_at j).at (spots_at j).step)) → model_in g (suc j) q one ≡ after_at table f small j old (record { end = b.end; values = spots_of one (spots_at j).at (spots_at j).step })
      model h = let e = flag k.kind _ p.kind p.place et el in model_after table f small m flat one b.end q g j p.first p.later p.below n long d.kept h e.0 e.1 ee

      read : WideReads s 0 1216 (counted m.reads (quick_part table f small j old)) m.next (model_in g (suc j) q one, q.reads) q.next
      read r i l n =
          let w = d.read r i l n in
          let fine = samples_at table f small v s r j old (rw (sym from) at w.value) in
          let a = going_as (ap (counted m.reads) (part_coded table f small j old)) (going_start (counted m.reads (quick_part table f small j old)) r i l n) in
          going_told (going_counted 0 1216 m.reads (coded table (kind_at f small j) (place_at j) m.top m.left (old_at table f small j old)) (λ c. done (after_at table f small j old c)) a (rw (sym from) at d.read) (omega arith) (omega arith)) (model fine) refl

      go : (n : ℕ) → j + n ≡ 25 → ((r : Reader) → Sim s start r → start.at + 30400 < 2 ^ 64 → Going s (run_padded (counted 0 whole) s r) (start.at + 30400) 0 (1216 * n) (counted m.reads (parts_from table f small n j old)) m.next) → Parting s table f small whole start g (suc j) q one
      go zero e h = absurd (omega (arith, p.below))
      go (suc n) e h =
          record {
            more = n;
            sum = omega arith;
            zeros = λ z. absurd (omega arith);
            going = λ r v b. going_next (1216 * n) 1216 m.reads (quick_part table f small j old) (parts_from table f small n (suc j)) (h r v b) read (omega arith) (omega arith);
          }

-- ---- the loops over the blocks of a row and the rows of a group
module _ {s table : List ℕ} {k : Group} where
  pub passed_none : {m : Wider} {flat : List ℤ} (from : ℕ) → Ready table m flat → Passed s table k from m flat from m flat
  passed_none from h = record { ready = h; few = omega arith; on = λ f small whole start g l e p. p }

  pub passed_then : {from to last : ℕ} {m q r : Wider} {flat new end : List ℤ} → Passed s table k from m flat to q new → Passed s table k to q new last r end → Passed s table k from m flat last r end
  passed_then h c =
      record { ready = c.ready; few = omega (arith, h.few, c.few); on = λ f small whole start g l e p. c.on f small whole start g l e (h.on f small whole start g l e p) }

  -- the same block, said otherwise
  pub passed_to : {from to last : ℕ} {m q : Wider} {flat new : List ℤ} → to ≡ last → Passed s table k from m flat to q new → Passed s table k from m flat last q new
  passed_to e c = rw e at c

  passed_with : {from to : ℕ} {m q r : Wider} {flat new : List ℤ} → q ≡ r → Passed s table k from m flat to q new → Passed s table k from m flat to r new
  passed_with e c = rw e at c

parting_as : {s table : List ℕ} {f : Factors} {small : Bool} {whole : Reading Model} {start : Wide} {g i j : ℕ} {m : Wider} {flat : List ℤ} → i ≡ j → Parting s table f small whole start g i m flat → Parting s table f small whole start g j m flat
parting_as e c = rw e at c

part_in : (f : Factors) (small : Bool) (g : ℕ) {k : Group} {y x : ℕ} → g < 4 → k ≡ group_of f small g → y < k.side → x < k.side → PartOf f small g k y x (start_of g + (k.side * y + x))
part_in f small g l e h m = rw e (part_of f small g l (rw e at h) (rw e at m))

-- one block more
module _ {s table : List ℕ} {k : Group} {from y x : ℕ} {m₀ m : Wider} {flat₀ flat : List ℤ} (a : Passed s table k from m₀ flat₀ (k.side * y + x) m flat) (v : Bytes table) (h : y < k.side) (l : x < k.side) where
  pub passed_block : {ctx : ℕ} {one : List ℤ} {b : WideBlock} {top left : List ℕ} {empty : Bool} → ctx ≡ get_or m.top (k.flag + x) 0 + get_or m.left (k.flag + y) 0
      → BlockCoded s m.next (block table k.kind.kind k.kind.q0 k.kind.q1 ctx k.kind.first) (k.at + k.side * y + x) k.step flat one b → b.reads ≤ 304 → Ranged b.next
      → top ≡ set m.top (k.flag + x) (bit_of (ltb k.kind.first b.end)) → left ≡ set m.left (k.flag + y) (bit_of (ltb k.kind.first b.end)) → empty ≡ m.empty && leb b.end 1
      → Passed s table k from m₀ flat₀ (k.side * y + (x + 1)) (record { next = b.next; reads = m.reads + b.reads; top = top; left = left; empty = empty }) one
  passed_block {ctx} {one} {b} {top} {left} {empty} ec c few ranged et el ee =
      record {
        ready = record {
          size = a.ready.size;
          top = rw et (flags_flagged a.ready.top (k.flag + x) (ltb k.kind.first b.end));
          left = rw el (flags_flagged a.ready.left (k.flag + y) (ltb k.kind.first b.end));
          long = coded_long c ∙ a.ready.long;
          ranged = ranged;
        };
        few = omega (arith, a.few, few);
        on = λ f small whole start g u e p.
            parting_as {g = g} (omega arith) (parting_block (a.on f small whole start g u e p) (part_in f small g u e h l) v a.ready.long ec c et el ee);
      }

-- a row: the flag on the left goes from block to block
pub near_flag : (l : List ℕ) (i : ℕ) {v : ℕ} → i < length l → Flags (set l i v) → v ≤ 1
near_flag l i {v} h f = omega (arith, f.each i, get_or-set_same l i v 0 h)

pub row_start : {s table : List ℕ} {k : Group} (y : ℕ) {m : Wider} {flat : List ℤ} {beside : ℕ} → Ready table m flat → beside ≡ get_or m.left (k.flag + y) 0
    → Passed s table k (k.side * y) m flat (k.side * y + 0) (record { next = m.next; reads = m.reads; top = m.top; left = set m.left (k.flag + y) beside; empty = m.empty }) flat
row_start {k = k} y {m} {beside = beside} h e =
    let l : m.left ≡ set m.left (k.flag + y) beside = sym (ap (set m.left (k.flag + y)) e ∙ set-get_or m.left (k.flag + y) 0) in
    let q : m ≡ record { next = m.next; reads = m.reads; top = m.top; left = set m.left (k.flag + y) beside; empty = m.empty } = (λ p. record { next = m.next; reads = m.reads; top = m.top; left = l p; empty = m.empty }) in
    passed_to (sym (add-zero (k.side * y))) (passed_with q (passed_none (k.side * y) h))

module _ {s table : List ℕ} {k : Group} {from y x : ℕ} {m₀ : Wider} {flat₀ flat : List ℤ} {next : Wide} {reads : ℕ} {top : List ℕ} {empty : Bool} (left : List ℕ) (beside : ℕ)
    (a : Passed s table k from m₀ flat₀ (k.side * y + x) (record { next = next; reads = reads; top = top; left = set left (k.flag + y) beside; empty = empty }) flat) (v : Bytes table) (h : y < k.side) (l : x < k.side) (i : k.flag + y < length left) where
  pub row_next : {one : List ℤ} {b : WideBlock} {on : ℕ} → BlockCoded s next (block table k.kind.kind k.kind.q0 k.kind.q1 (get_or top (k.flag + x) 0 + beside) k.kind.first) (k.at + k.side * y + x) k.step flat one b → b.reads ≤ 304 → Ranged b.next → on ≡ bit_of (ltb k.kind.first b.end)
      → Passed s table k from m₀ flat₀ (k.side * y + (x + 1)) (record { next = b.next; reads = reads + b.reads; top = set top (k.flag + x) on; left = set left (k.flag + y) on; empty = empty && leb b.end 1 }) one
  row_next {one} {b} {on} c few ranged e =
      passed_block {y = y} {x = x} a v h l (ap (λ (n : ℕ). get_or top (k.flag + x) 0 + n) (sym (get_or-set_same left (k.flag + y) beside 0 i))) c few ranged (ap (set top (k.flag + x)) e)
      (sym (set-set left (k.flag + y) beside on) ∙ ap (set (set left (k.flag + y) beside) (k.flag + y)) e) refl

pub row_end : (k : Group) (y : ℕ) {x : ℕ} → x ≡ k.side → k.side * y + x ≡ k.side * (y + 1)
row_end k y e = rw (e, add-one y) (omega (arith, mul-suc k.side y))

-- ---- the loop over the groups
-- behind one, as the code tells it
pub settled_first : (g : ℕ) (l : List ℤ) → g ≡ 0 → settled_of 0 l ≡ settled_of g l
settled_first g l e = rw e refl

pub settled_later : (g : ℕ) (l : List ℤ) → (g ≢ 0) → l ≡ settled_of g l
settled_later zero l h = absurd (h refl)
settled_later (suc g) l h = refl

pub none_first : (g : ℕ) (none : Bool) → g ≡ 0 → true ≡ none_after g none
none_first g none e = rw e refl

pub none_later : (g : ℕ) (none : Bool) → (g ≢ 0) → none ≡ none_after g none
none_later zero none h = absurd (h refl)
none_later (suc g) none h = refl

length_settled : (g : ℕ) (l : List ℤ) → length l ≡ 400 → length (settled_of g l) ≡ 400
length_settled zero l e = length_placed l 0 (λ k. get_or (transform_of (sixteen_at l 384) true).samples k (pos 0)) 16 ∙ e
length_settled (suc g) l e = e

-- where the next one starts
group_end : (f : Factors) (small : Bool) (g : ℕ) {k : Group} → k ≡ group_of f small g → start_of g + k.side * k.side ≡ start_of (suc g)
group_end f small zero e = rw e refl
group_end f small (suc zero) e = rw e refl
group_end f small (suc (suc c)) e = rw e (omega arith)

past_start : (g : ℕ) → start_of (suc g) ≡ suc (start_of (suc g) - 1)
past_start zero = refl
past_start (suc c) = omega arith

module _ {s table : List ℕ} {f : Factors} {small : Bool} {whole : Reading Model} {start : Wide} {q : Wider} {new last : List ℤ} {empty : Bool} where
  settled_at : (g i : ℕ) → Parting s table f small whole start g (suc i) q new → last ≡ settled_of g new → empty ≡ none_after g q.empty
      → Parting s table f small whole start (suc g) (suc i) (record { next = q.next; reads = q.reads; top = q.top; left = q.left; empty = empty }) last
  settled_at g i c n e =
      record {
        more = c.more;
        sum = c.sum;
        zeros = λ z. absurd (omega arith);
        going = λ r v b.
            going_as
            (λ p. counted q.reads (parts_from table f small c.more (suc i) (record { top = q.top; left = q.left; coefficients = in_blocks (sym n p); empty = sym e p && firsts_of i (in_blocks (sym n p)) })))
            (c.going r v b);
      }

  module _ (g : ℕ) {k : Group} {m : Wider} {flat : List ℤ} (c : Passed s table k 0 m flat (k.side * k.side) q new) (n : last ≡ settled_of g new) where
    pub parting_group : g < 4 → k ≡ group_of f small g → Parting s table f small whole start g (start_of g) m flat → empty ≡ none_after g q.empty
        → Parting s table f small whole start (g + 1) (start_of (g + 1)) (record { next = q.next; reads = q.reads; top = q.top; left = q.left; empty = empty }) last
    parting_group l e p w =
        let a = c.on f small whole start g l e (parting_as (sym (add-zero (start_of g))) p) in
        rw (add-one g) (parting_as (sym (past_start g)) (settled_at g (start_of (suc g) - 1) (parting_as (group_end f small g e ∙ past_start g) a) n w))

pub group_ready : {table : List ℕ} {q : Wider} {new last : List ℤ} {empty : Bool} (g : ℕ) → Ready table q new → last ≡ settled_of g new → Ready table (record { next = q.next; reads = q.reads; top = q.top; left = q.left; empty = empty }) last
group_ready {new = new} g h n = record { size = h.size; top = h.top; left = h.left; long = ap length n ∙ length_settled g new h.long; ranged = h.ranged }

-- before the first: small modes have no second-order block
module _ (s table : List ℕ) (f : Factors) (m : Wider) {flat : List ℤ} (z : flat ≡ replicate 400 (pos 0)) (k : m.reads ≡ 0) where
  begun : (small : Bool) (g j n : ℕ) → j + n ≡ 25 → residual_of table f small false m.top m.left ≡ parts_from table f small n j (initial m.top m.left) → initial m.top m.left ≡ model_in g j m flat
      → Parting s table f small (residual_of table f small false m.top m.left) m.next g j m flat
  begun small g j n h e i =
      record {
        more = n;
        sum = h;
        zeros = λ x. z;
        going = λ r v b.
            let c : Going s (run_padded (counted 0 (residual_of table f small false m.top m.left)) s r) (m.next.at + 30400) 0 30400 (counted 0 (residual_of table f small false m.top m.left)) m.next = going_start (counted 0 (residual_of table f small false m.top m.left)) r v (omega arith) b in
            going_weaken 0 (1216 * n) (going_as (λ p. counted (sym k p) ((e ∙ ap (parts_from table f small n j) i) p)) c) (omega arith) (omega arith);
      }

  pub parting_start : (small : Bool) {g : ℕ} → g ≡ bit_of small → m.empty ≡ true → Parting s table f small (residual_of table f small false m.top m.left) m.next g (start_of g) m flat
  parting_start small {g} e i = rw e (go small)
    where
      numbers : replicate 384 (pos 0) ≡ in_blocks flat
      numbers = sym in_blocks_zeros ∙ ap in_blocks (sym z)

      empty : true ≡ m.empty && true
      empty = rw i refl

      go : (small : Bool) → Parting s table f small (residual_of table f small false m.top m.left) m.next (bit_of small) (start_of (bit_of small)) m flat
      go true = begun true 1 1 24 refl (residual_parts table f true m.top m.left) (λ p. record { top = m.top; left = m.left; coefficients = numbers p; empty = empty p })
      go false = begun false 0 0 25 refl (residual_parts table f false m.top m.left) (λ p. record { top = m.top; left = m.left; coefficients = numbers p; empty = true })

-- behind the last
and_assoc : (a b c : Bool) → a && (b && c) ≡ (a && b) && c
and_assoc true b c = refl
and_assoc false b c = refl

all_split : (n k : ℕ) (a : ℕ → Bool) → all_below (n + k) a ≡ all_below k (λ i. a (n + i)) && all_below n a
all_split n zero a = ap (λ (m : ℕ). all_below m a) (add-zero n)
all_split n (suc k) a = ap (λ (m : ℕ). all_below m a) (add-suc n k) ∙ ap (λ (b : Bool). a (n + k) && b) (all_split n k a) ∙ and_assoc (a (n + k)) (all_below k (λ i. a (n + i))) (all_below n a)

first_number : (l : List ℤ) (b : ℕ) {n : ℕ} → b < 24 → (block_spots b).at ≡ n → get_or (in_blocks l) (16 * b) (pos 0) ≡ get_or l n (pos 0)
first_number l b {n} h e =
    let z : (block_spots b).at + (block_spots b).step * 0 ≡ n = omega (arith, e) in
    in_blocks_at l (16 * b) (omega arith) ∙ ap (λ (x : ℕ). get_or l x (pos 0)) (ap number_place (sym (add-zero (16 * b))) ∙ sym (number_block b 0 (omega arith)) ∙ z)

firsts_all : (l : List ℤ) → zeros_at l 256 8 && zeros_at l 0 16 ≡ firsts_of 24 (in_blocks l)
firsts_all l =
    sym (all_split 16 8 (λ i. zero_of (get_or (in_blocks l) (16 * i) (pos 0)))
    ∙ ap₂ ◌&&◌
    (all_same 8 _ _ (λ i h. ap zero_of (first_number l (16 + i) {n = 256 + i} (omega arith) (ap (λ (x : Spots). x.at) (block_chroma (16 + i) (omega arith)) ∙ omega arith))))
    (all_same 16 _ _ (λ i h. ap zero_of (first_number l i {n = 0 + i} (omega arith) (ap (λ (x : Spots). x.at) (block_luma i h) ∙ omega arith)))))

pub parting_end : {s table : List ℕ} {f : Factors} {small : Bool} {whole : Reading Model} {start : Wide} {g : ℕ} {m : Wider} {flat : List ℤ} {empty : Bool} → Parting s table f small whole start g (start_of g) m flat → g ≡ 4 → empty ≡ m.empty && (zeros_at flat 256 8 && zeros_at flat 0 16)
    → WideReads s 0 30400 (counted 0 whole) start (model_at (record { next = m.next; reads = m.reads; top = m.top; left = m.left; empty = empty }) flat, m.reads) m.next
unfolding parts_from
parting_end {s} {table} {f} {small} {whole} {start} {g} {m} {flat} {empty} c e w r v k b = let d : Parting s table f small whole start 4 25 m flat = rw e at c in go d.more d.sum (d.going r v b)
  where
    same : empty ≡ m.empty && firsts_of 24 (in_blocks flat)
    same = w ∙ ap (λ (x : Bool). m.empty && x) (firsts_all flat)

    go : (n : ℕ) → 25 + n ≡ 25 → Going s (run_padded (counted 0 whole) s r) (start.at + 30400) 0 (1216 * n) (counted m.reads (parts_from table f small n 25 (model_in 4 25 m flat))) m.next
        → Gave s (run_padded (counted 0 whole) s r) (start.at + 30400) (model_at (record { next = m.next; reads = m.reads; top = m.top; left = m.left; empty = empty }) flat, m.reads) m.next
    go zero h a = going_told a (λ p. record { top = m.top; left = m.left; coefficients = in_blocks flat; empty = same p }) refl
    go (suc n) h a = absurd (omega arith)
