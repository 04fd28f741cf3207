-- One turn of each loop over sub-blocks, and each way out of the public call, on plain values.
use Rattle.numbers.specs.Words.{Ok, Err, ℕ, ◌+◌, ◌*◌, ◌/◌, ◌%◌, ◌^◌, ◌≤◌, ◌<◌, add-one, zero-add, ◌≡◌, sym, ◌∙◌, ap, Bool, true, false, ◌&&◌, cond, eqb, both_true, both_false, List, length, get_or, Bytes, all_below, ℤ, pos, negsuc, mag, Know, round, any, w16, hbits}
use Rattle.numbers.specs.declared.Refused.TheVariants as K
use Rattle.planes.specs.declared.edges.Spot.{Spot}
use Rattle.predict.specs.Predict.{small_block_of}
use Rattle.planes.specs.Paint.{block_above_right_of, around_of, painted, block_painted, blocks_painted, small_at, small_rule, square_painted, square_blocks, paint_modes_fine, square_fine_of, coefficients_fine, paint_fine, paint_of}
use Rattle.planes.specs.PaintLaws.{blocks_next}
use Rattle.planes.specs.Places.{Lies, Sub}
use Rattle.planes.specs.Pieces.{lane_added, mean_added, FirstFit, Ready, standing, stand_rule}
use Rattle.planes.specs.PiecesLaws.{added_block, painted_then, small_at_long}

-- ---- a coefficient as it is read
pub taken : (z : ℤ) → mag z < 2 ^ hbits w16 → Know (round w16 z) z (negsuc 32767) (pos 32767)
taken z p = any w16 {z = z} (record { sfits = p })

-- ---- sub-blocks
module _ {c : List ℤ} {from : ℕ} {cs : List ℤ} {coded : List Bool} {r : List ℤ} {n : ℕ} (ready : Ready c from cs coded r n) (w x y m i : ℕ) (h : i < n) {s : Spot} (a : Sub w x y m i s) (l : s.x + 4 ≤ w)
    {j : ℕ} {b : Bool} {dc : ℤ} (o : j ≡ from + i) (f : b ≡ get_or coded j false) (g : dc ≡ get_or c j (pos 0)) where
  -- one added to what stands there
  added_sub : (q : List ℕ) → Bytes q → {q' : List ℕ} → q' ≡ cond b (lane_added q w s.at r j) (mean_added q w s.at dc) → q' ≡ block_painted q w s.x s.y (standing q w s.x s.y) cs i
  added_sub q b d = d ∙ added_block ready q b w s.x s.y i h l a.at o f g

  pub large_turn : (p : List ℕ) {q q' : List ℕ} → q ≡ blocks_painted (stand_rule w x y m) p w x y m cs i → Bytes q → q' ≡ cond b (lane_added q w s.at r j) (mean_added q w s.at dc)
      → q' ≡ blocks_painted (stand_rule w x y m) p w x y m cs (i + 1)
  large_turn p {q} e v d = added_sub q v d ∙ rw (a.across, a.down) (blocks_next (stand_rule w x y m) p w x y m cs i e)

module _ {c cs : List ℤ} {coded : List Bool} {r : List ℤ} {n : ℕ} (ready : Ready c 0 cs coded r n) (w x y i : ℕ) (h : i < n) {s : Spot} (a : Sub w x y 4 i s)
    {b : Bool} {dc : ℤ} (f : b ≡ get_or coded i false) (g : dc ≡ get_or c i (pos 0)) (right modes : List ℕ) where
  -- one predicted, and added
  pub small_turn : (p : List ℕ) {q q' q'' : List ℕ} → q ≡ blocks_painted (small_rule w x y right modes) p w x y 4 cs i → Lies (length q) w s
      → q' ≡ painted q w s.x s.y (small_at q w s.x s.y (eqb (i % 4) 3) right (get_or modes i 0))
      → Bytes q' → q'' ≡ cond b (lane_added q' w s.at r i) (mean_added q' w s.at dc)
      → q'' ≡ blocks_painted (small_rule w x y right modes) p w x y 4 cs (i + 1)
  small_turn p {q} {q'} e t d v o =
      let pred = small_at q w s.x s.y (eqb (i % 4) 3) right (get_or modes i 0) in
      added_sub ready w x y 4 i h a t.square.columns (sym (zero-add i)) f g q' v o
      ∙ ap (λ (v : List ℕ). block_painted v w s.x s.y (standing v w s.x s.y) cs i) d
      ∙ painted_then q w s.x s.y t.square pred cs i (small_at_long q w s.x s.y (eqb (i % 4) 3) right (get_or modes i 0))
      ∙ rw (a.across, a.down) (blocks_next (small_rule w x y right modes) p w x y 4 cs i e)

pub small_is : (p : List ℕ) (w x y : ℕ) (last : Bool) (right : List ℕ) (mode : ℕ) (e : List ℕ) {pred : List ℕ}
    → e ≡ around_of p w x y (block_above_right_of p w x y last right) → pred ≡ small_block_of mode e → pred ≡ small_at p w x y last right mode
unfolding small_at
small_is p w x y last right mode e f g = g ∙ ap (small_block_of mode) f

-- ---- sixteen blocks are all that there are
module _ {n from : ℕ} (c : List ℤ) (e : n ≡ 16) (z : from ≡ 0) where
  pub ready_all : {coded : List Bool} {r : List ℤ} → Ready c from (square_blocks n from c) coded r (n / 4 * (n / 4)) → Ready c 0 (square_blocks 16 0 c) coded r 16
  ready_all h = rw (e, z) at h

  pub first_all : FirstFit c 0 16 → FirstFit c from (n / 4 * (n / 4))
  first_all h = rw (e, z) h

  pub blocks_all : square_blocks 16 0 c ≡ square_blocks n from c
  blocks_all = rw (e, z)

-- ---- checks
pub all_next : (f : ℕ → Bool) (k : ℕ) {b : Bool} → b ≡ all_below k f → f k && b ≡ all_below (k + 1) f
all_next f k e = rw (e, add-one)

module _ (p : List ℕ) (w column row n : ℕ) (small : Bool) (mode : ℕ) (modes : List ℕ) (c : List ℤ) where
  pub refused_modes : paint_modes_fine n small mode modes ≡ false → record { answer = Err K.OutOfRange; plane = p } ≡ paint_of p w column row n small mode modes c
  unfolding paint_of paint_fine
  refused_modes e = rw e

  pub refused_square : square_fine_of (length p) w column row n ≡ false → record { answer = Err K.OutOfRange; plane = p } ≡ paint_of p w column row n small mode modes c
  unfolding paint_of paint_fine
  refused_square e =
      let l : square_fine_of (length p) w column row n && coefficients_fine n c ≡ false = rw e in
      rw (both_false (paint_modes_fine n small mode modes) l)

  pub refused_coefficients : coefficients_fine n c ≡ false → record { answer = Err K.OutOfRange; plane = p } ≡ paint_of p w column row n small mode modes c
  unfolding paint_of paint_fine
  refused_coefficients e = rw (both_false (paint_modes_fine n small mode modes) (both_false (square_fine_of (length p) w column row n) e))

  pub all_fine : paint_modes_fine n small mode modes ≡ true → square_fine_of (length p) w column row n ≡ true → coefficients_fine n c ≡ true
      → paint_fine (length p) w column row n small mode modes c ≡ true
  unfolding paint_fine
  all_fine e f g = both_true e (both_true f g)

  pub done : {q : List ℕ} {x y : ℕ} → paint_fine (length p) w column row n small mode modes c ≡ true
      → x ≡ column * n → y ≡ row * n → q ≡ square_painted p w x y n small mode modes c
      → record { answer = Ok tt; plane = q } ≡ paint_of p w column row n small mode modes c
  unfolding paint_of
  done e a b h = rw (e, h, a, b)
