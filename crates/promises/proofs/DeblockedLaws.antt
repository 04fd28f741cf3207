-- The proofs of what is promised of deblocking: `edge_reaches`, `deblock_refused`; then of any memory that a call has left, `left_stays` and
-- `left_isolated`; and so of what the picture call leaves, `grey_stays`, and demand 3, `isolated_deblocked`, at the end.
use Rattle.std.specs.Prelude.{◌+◌, ◌-◌, ◌*◌, ◌/◌, ◌%◌, ◌≤◌, ◌<◌, ◌≡◌}
use Rattle.numbers.specs.Words.{ℕ, div-add-mod', div-lt_iff_lt-mul, mod-lt, mul_comm, mul-le-mul_right, arith, refl, sym, ◌∙◌, ap, ap₂, Bool, not, ⊎_elim, lit<, lt_or, List, length, get_or, Ok}
use Rattle.reader.specs.ReadingLaws.{Bytes}
use Rattle.planes.specs.Paint.{sample_at}
use Rattle.planes.specs.Places.{next_row}
use Rattle.lent.specs.Memory.{strength_width, strength_in, strength_at_of, Memory, sizes_of}
use Rattle.lent.specs.RecordsLaws.{record_byte, record_same}
use Rattle.tile.specs.Tile.{Sides}
use Rattle.macroblock.specs.Macroblock.{Planes}
use Rattle.choices.specs.Choices.{Call}
use Rattle.choices.specs.ChoicesLaws.{fine_side}
use Rattle.picture.specs.Picture.{State, Ended, pictured_of, picture_of, planes_in, Live}
use Rattle.picture.specs.Halt.{halted_of}
use Rattle.picture.specs.HaltLaws.{halted_picture, halted_alive}
use Rattle.deblock.specs.declared.edges.Edge.{Edge}
use Rattle.deblock.specs.Deblock as deblock
use Rattle.deblock.specs.Deblock.{DeblockAnswer, when, raster_of, deblock_of}
use Rattle.deblock.specs.ChecksLaws as checks
use Rattle.deblock.specs.Located.{PlaneGrid}
use Rattle.deblock.specs.LocalLaws.{edge_moves_six, edge_looks_at_eight, plane_local, later_stay, when_local, when_same}
use Rattle.promises.specs.Refusals.{Fine}
use Rattle.promises.specs.Places.{Plane, luma, blue, red, plane_of, plane_side, sample_of, strength_byte, block_at}
use Rattle.promises.specs.Valid.{limits_at_most_189}
use Rattle.promises.specs.Isolation.{SameTokens, Alike}
use Rattle.promises.proofs.Isolated.{isolated}
use Rattle.promises.specs.Grey.{InPlane, done}
use Rattle.promises.specs.GreyLaws.{finished_or_grey}
use Rattle.promises.specs.Deblocked.{EdgeReaches, DeblockRefused, deblocked_of, plane, sample_after, GreyStays, IsolatedDeblocked}

-- ONE EDGE
pub edge_reaches : (g : Edge) (at along step n : ℕ) → EdgeReaches g at along step n
edge_reaches g at along step n = record { changes = edge_moves_six g at along step n; looks = edge_looks_at_eight g at along step n }

-- REFUSALS
pub deblock_refused : (d : Planes) (s : List ℕ) (w h : ℕ) (simple : Bool) → DeblockRefused d s w h simple
deblock_refused d s w h simple =
    let y = length d.y in
    let u = length d.u in
    let v = length d.v in
    let z = sym (checks.deblock_number d s w h simple) in
    record {
      unchanged = λ n. checks.deblock_unchanged d s w h simple (λ e. n (z ∙ e));
      side = λ n. z ∙ sym (checks.refused_side w h y u v s n);
      sized = λ a n. z ∙ sym (checks.refused_lengths w h y u v s a n);
      limit = λ a l k i n. z ∙ sym (checks.refused_limit w h y u v s a l k i n);
      none = λ a l n. z ∙ sym (checks.fine_none w h y u v s (record { sides = a; lengths = l; limits = n }));
    }

-- ---- what a call for a tile leaves: no check of deblocking refuses it
abbrev pub Unrefused : Call → (left : Memory) → Type 0
Unrefused t left = checks.Fine t.tile.width t.tile.height (length left.y) (length left.u) (length left.v) left.strengths

-- since its planes and strengths have the lengths that every macroblock finds and leaves, and no limit is above 189
pub unrefused : (t : Call) → Sides t.tile.width t.tile.height → (left : Memory) (S : State) → Live (pictured_of t) S → left ≡ S.mem → ((k : ℕ) → (strength_at_of left.strengths k).limit ≤ 189) → Unrefused t left
unrefused t s left S l same limits =
    let w : t.tile.width ≡ t.tile.width / 16 * 16 = omega (arith, s.width.whole) in
    let h : t.tile.height ≡ t.tile.height / 16 * 16 = omega (arith, s.height.whole) in
    let y : t.tile.height / 16 * 16 * (t.tile.width / 16 * 16) ≡ t.tile.width * t.tile.height = ap₂ ◌*◌ (sym h) (sym w) ∙ mul_comm t.tile.height t.tile.width in
    let c1 : t.tile.height / 16 * 8 ≡ t.tile.height / 2 = omega arith in
    let c2 : t.tile.width / 16 * 16 / 2 ≡ t.tile.width / 2 = omega arith in
    let c : t.tile.height / 16 * 8 * (t.tile.width / 16 * 16 / 2) ≡ t.tile.width / 2 * (t.tile.height / 2) = ap₂ ◌*◌ c1 c2 ∙ mul_comm (t.tile.height / 2) (t.tile.width / 2) in
    record {
      sides = s;
      lengths = record {
        luma = ap (λ (d : Memory). length d.y) same ∙ l.y ∙ y;
        blue = ap (λ (d : Memory). length d.u) same ∙ l.u ∙ c;
        red = ap (λ (d : Memory). length d.v) same ∙ l.v ∙ c;
        records = ap (λ (d : Memory). length d.strengths) same ∙ l.strengths;
      };
      limits = λ k h. limits k;
    }

-- so the deblocking call does its work
is : (t : Call) (left : Memory) → Unrefused t left → (simple : Bool)
    → deblocked_of t left simple ≡ record { answer = Ok tt; planes = deblock.planes_deblocked simple left.strengths (t.tile.width / 16) (t.tile.height / 16) (planes_in left) }
is t left f simple =
    sym (checks.done (planes_in left) left.strengths t.tile.width t.tile.height simple (checks.fine_none t.tile.width t.tile.height (length left.y) (length left.u) (length left.v) left.strengths f) refl)

-- what a call leaves that comes as far as macroblock k: from there on it is grey, with strengths of 0
pub record Left (t : Call) (left : Memory) (k : ℕ) : Type 0 where
  pub fine : Unrefused t left
  pub grey : (a : Plane) (c r : ℕ) → InPlane t a c r → k ≤ block_at (t.tile.width / 16) a c r → sample_of (t.tile.width / 16) a c r left ≡ 128
  pub no_strengths : (i : ℕ) → k * strength_width ≤ i → strength_byte i left ≡ 0

-- a limit is the first byte of its record
pub limit_byte : (strengths : List ℕ) (k : ℕ) → (strength_at_of strengths k).limit ≡ get_or strengths (k * strength_width + 0) 0
limit_byte strengths k = record_byte strength_width strengths k 0 (lit< tt)

-- ---- from samples by column and row to places
place : {w rows : ℕ} (p q : List ℕ) → 0 < w → ((c r : ℕ) → c < w → r < rows → sample_at p w c r ≡ sample_at q w c r) → (i : ℕ) → i < rows * w → get_or p i 0 ≡ get_or q i 0
place {w} {rows} p q s h i l =
    let z : i / w * w + i % w ≡ i = div-add-mod' i w in
    rw z at (h (i % w) (i / w) (mod-lt i {m = w} s) ((div-lt_iff_lt-mul s).1 l))

-- the planes that the deblocking call leaves
module _ (simple : Bool) (s : List ℕ) (wide high : ℕ) (d : Planes) where
  abbrev chroma : List ℕ → List ℕ
  chroma c = when (not simple) (raster_of simple s 8 wide (wide * high)) c

  abbrev parts : (a : Plane) → List ℕ
  parts luma = raster_of simple s 16 wide (wide * high) d.y
  parts blue = chroma d.u
  parts red = chroma d.v

  parts_is : (a : Plane) → plane a (deblock.planes_deblocked simple s wide high d) ≡ parts a
  unfolding deblock.planes_deblocked
  parts_is luma = refl
  parts_is blue = refl
  parts_is red = refl

-- ---- one call: where macroblocks are grey no sample moves
module _ (t : Call) (left : Memory) (d : ℕ) (z : Left t left d) (simple : Bool) where
  abbrev across : ℕ
  across = t.tile.width / 16

  no_limit : (k : ℕ) → d ≤ k → (strength_at_of left.strengths k).limit ≡ 0
  no_limit k h = limit_byte left.strengths k ∙ z.no_strengths (k * strength_width + 0) (omega arith)

  -- a plane of squares of n by n
  module _ {len n : ℕ} (g : PlaneGrid len n across (t.tile.height / 16)) (p : List ℕ) (c r : ℕ) (i : c < across * n) (h : d ≤ r / n * across + c / n) where
    unmoved : get_or (raster_of simple left.strengths n across (across * (t.tile.height / 16)) p) (r * (across * n) + c) 0 ≡ get_or p (r * (across * n) + c) 0
    unmoved = later_stay simple left.strengths g.size (omega (arith, z.fine.sides.width.least)) c r i d (across * (t.tile.height / 16)) no_limit h p

  unmoved_chroma : {len : ℕ} → PlaneGrid len 8 across (t.tile.height / 16) → (p : List ℕ) (c r : ℕ) → c < across * 8 → d ≤ r / 8 * across + c / 8
      → get_or (chroma simple left.strengths across (t.tile.height / 16) (planes_in left) p) (r * (across * 8) + c) 0 ≡ get_or p (r * (across * 8) + c) 0
  unmoved_chroma g p c r i h = when_same (not simple) _ p (r * (across * 8) + c) (unmoved g p c r i h)

  part_stays : (a : Plane) (c r : ℕ) → InPlane t a c r → d ≤ block_at across a c r
      → get_or (parts simple left.strengths across (t.tile.height / 16) (planes_in left) a) (r * (across * plane_side a) + c) 0 ≡ get_or (plane a (planes_in left)) (r * (across * plane_side a) + c) 0
  part_stays luma c r i h = unmoved (checks.luma_whole z.fine).grid left.y c r i.across h
  part_stays blue c r i h = unmoved_chroma (checks.blue_whole z.fine).grid left.u c r i.across h
  part_stays red c r i h = unmoved_chroma (checks.red_whole z.fine).grid left.v c r i.across h

  plane_is : (a : Plane) → plane a (planes_in left) ≡ plane_of a left
  plane_is luma = refl
  plane_is blue = refl
  plane_is red = refl

  stays_grey : (a : Plane) (c r : ℕ) → InPlane t a c r → d ≤ block_at across a c r → sample_after t left simple a c r ≡ 128
  stays_grey a c r i h =
      ap (λ (E : DeblockAnswer). get_or (plane a E.planes) (r * (across * plane_side a) + c) 0) (is t left z.fine simple)
      ∙ ap (λ (q : List ℕ). get_or q (r * (across * plane_side a) + c) 0) (parts_is simple left.strengths across (t.tile.height / 16) (planes_in left) a)
      ∙ part_stays a c r i h
      ∙ ap (λ (q : List ℕ). get_or q (r * (across * plane_side a) + c) 0) (plane_is a)
      ∙ z.grey a c r i h

  -- GREY STAYS GREY, whichever call left it
  pub left_stays : GreyStays t left d simple
  left_stays = record { answer = ap (λ (E : DeblockAnswer). E.answer) (is t left z.fine simple); grey = stays_grey }

-- ---- two calls
-- what they leave for two tiles alike in all but token partition p: the same above row p, and all the same where that partition decides nothing
pub record SameLeft (p : ℕ) (t u : Call) (one two : Memory) : Type 0 where
  pub samples : (a : Plane) (c r : ℕ) → c < t.tile.width / 16 * plane_side a → r < p * plane_side a → sample_of (t.tile.width / 16) a c r one ≡ sample_of (t.tile.width / 16) a c r two
  pub strengths : (i : ℕ) → i < p * (t.tile.width / 16) * strength_width → strength_byte i one ≡ strength_byte i two
  pub no_row : t.tile.height / 16 ≤ p → one ≡ two
  pub no_difference : SameTokens t u p → one ≡ two
  pub ignored : t.tile.count ≤ p → one ≡ two

-- the same memory for tiles of one size gives the same
pub all_deblocked : {p : ℕ} {t u : Call} {one two : Memory} → Alike p t u → (simple : Bool) → one ≡ two → deblocked_of t one simple ≡ deblocked_of u two simple
all_deblocked a simple z = λ i. deblock_of (planes_in (z i)) (z i).strengths (a.width i) (a.height i) simple

module _ (p : ℕ) (t u : Call) (one two : Memory) (a : Alike p t u) (x : Unrefused t one) (y : Unrefused u two) (before : SameLeft p t u one two) (simple : Bool) where
  abbrev wide : ℕ
  wide = t.tile.width / 16

  abbrev high : ℕ
  high = t.tile.height / 16

  some : 0 < wide
  some = omega (arith, x.sides.width.least)

  first_is : deblocked_of t one simple ≡ record { answer = Ok tt; planes = deblock.planes_deblocked simple one.strengths wide high (planes_in one) }
  first_is = is t one x simple

  second_is : deblocked_of u two simple ≡ record { answer = Ok tt; planes = deblock.planes_deblocked simple two.strengths wide high (planes_in two) }
  second_is = is u two y simple ∙ ap₂ (λ (w h : ℕ). record { answer = Ok tt; planes = deblock.planes_deblocked simple two.strengths (w / 16) (h / 16) (planes_in two) }) (sym a.width) (sym a.height)

  all_same : one ≡ two → deblocked_of t one simple ≡ deblocked_of u two simple
  all_same = all_deblocked a simple

  strength_same : (k : ℕ) → k < wide * p → strength_at_of one.strengths k ≡ strength_at_of two.strengths k
  strength_same k h =
      ap strength_in (record_same strength_width one.strengths two.strengths k k (λ j l. before.strengths (k * strength_width + j) (omega (arith, mul_comm wide p))))

  -- a plane of squares of z by z
  module _ (l : p ≤ high) {len z : ℕ} (g : PlaneGrid len z wide high) (P Q : List ℕ) (long : length P ≡ length Q) (filled : 0 < wide * z)
      (h : (c r : ℕ) → c < wide * z → r < p * z → sample_at P (wide * z) c r ≡ sample_at Q (wide * z) c r) (i : ℕ) (k : i < (p * z - 3) * (wide * z)) where
    higher : get_or P i 0 ≡ get_or Q i 0
    higher = place P Q filled h i (omega (arith, mul-le-mul_right {m = p * z - 3} {n = p * z} (wide * z) (omega arith)))

    filtered : get_or (raster_of simple one.strengths z wide (wide * high) P) i 0 ≡ get_or (raster_of simple two.strengths z wide (wide * high) Q) i 0
    filtered = plane_local simple g.size some l one.strengths two.strengths P Q strength_same (record { long = long; same = place P Q filled h }) i k

    filtered_chroma : z ≡ 8 → get_or (chroma simple one.strengths wide high (planes_in one) P) i 0 ≡ get_or (chroma simple two.strengths wide high (planes_in two) Q) i 0
    filtered_chroma v = when_local (not simple) _ _ P Q i (rw v at filtered) higher

  parts_same : p ≤ high → (c : Plane) (i : ℕ) → i < (p * plane_side c - 3) * (wide * plane_side c)
      → get_or (parts simple one.strengths wide high (planes_in one) c) i 0 ≡ get_or (parts simple two.strengths wide high (planes_in two) c) i 0
  parts_same l luma i k =
      filtered l (checks.luma_whole x).grid one.y two.y
      (x.lengths.luma ∙ ap₂ (λ (w h : ℕ). w * h) a.width a.height ∙ sym y.lengths.luma) (omega (arith, some)) (before.samples luma) i k
  parts_same l blue i k =
      filtered_chroma l (checks.blue_whole x).grid one.u two.u
      (x.lengths.blue ∙ ap₂ (λ (w h : ℕ). w / 2 * (h / 2)) a.width a.height ∙ sym y.lengths.blue) (omega (arith, some)) (before.samples blue) i k refl
  parts_same l red i k =
      filtered_chroma l (checks.red_whole x).grid one.v two.v
      (x.lengths.red ∙ ap₂ (λ (w h : ℕ). w / 2 * (h / 2)) a.width a.height ∙ sym y.lengths.red) (omega (arith, some)) (before.samples red) i k refl

  samples_same : (x : Plane) (c r : ℕ) → c < wide * plane_side x → r + 3 < p * plane_side x → sample_after t one simple x c r ≡ sample_after u two simple x c r
  samples_same x c r h k =
      let i : r * (wide * plane_side x) + c < (p * plane_side x - 3) * (wide * plane_side x) = omega (arith, next_row r (p * plane_side x - 3) (wide * plane_side x) (omega arith)) in
      ⊎_elim
      (λ l. ap (λ (E : DeblockAnswer). get_or (plane x E.planes) (r * (wide * plane_side x) + c) 0) first_is
      ∙ ap (λ (q : List ℕ). get_or q (r * (wide * plane_side x) + c) 0) (parts_is simple one.strengths wide high (planes_in one) x)
      ∙ parts_same (omega arith) x (r * (wide * plane_side x) + c) i
      ∙ sym (ap (λ (q : List ℕ). get_or q (r * (wide * plane_side x) + c) 0) (parts_is simple two.strengths wide high (planes_in two) x))
      ∙ sym (ap (λ (E : DeblockAnswer). get_or (plane x E.planes) (r * (wide * plane_side x) + c) 0) second_is))
      (λ l. ap (λ (E : DeblockAnswer). get_or (plane x E.planes) (r * (wide * plane_side x) + c) 0) (all_same (before.no_row l)))
      (lt_or p high)
      ∙ ap (λ (w : ℕ). sample_at (plane x (deblocked_of u two simple).planes) (w / 16 * plane_side x) c r) a.width

  -- DEMAND 3, whichever calls left them
  pub left_isolated : IsolatedDeblocked p t u one two simple
  left_isolated = record {
    first = ap (λ (E : DeblockAnswer). E.answer) first_is;
    second = ap (λ (E : DeblockAnswer). E.answer) second_is;
    samples = samples_same;
    no_row = λ l. all_same (before.no_row l);
    no_difference = λ l. all_same (before.no_difference l);
    ignored = λ l. all_same (before.ignored l);
  }

-- ---- what the picture call leaves
picture_left : (t : Call) (m : Memory) → Bytes t.bytes → Fine t m → Left t (picture_of t m).mem (done t m)
picture_left t m b e =
    let g = finished_or_grey t m b e in
    let same = ap (λ (E : Ended). E.mem) (sym (halted_picture t m)) in
    record {
      fine = unrefused t (fine_side t (sizes_of m) e) (picture_of t m).mem (halted_of t m).state (halted_alive t m e b).live same (limits_at_most_189 t m b e);
      grey = g.grey;
      no_strengths = g.no_strengths;
    }

-- GREY STAYS GREY, after 0, 6 and 7
pub grey_stays : (t : Call) (m : Memory) → Bytes t.bytes → Fine t m → (simple : Bool) → GreyStays t (picture_of t m).mem (done t m) simple
grey_stays t m b e = left_stays t (picture_of t m).mem (done t m) (picture_left t m b e)

-- DEMAND 3 AFTER DEBLOCKING
pub isolated_deblocked : (p : ℕ) (t u : Call) (m n : Memory) → Alike p t u → Fine t m → Fine u n → Bytes t.bytes → Bytes u.bytes → (simple : Bool)
    → IsolatedDeblocked p t u (picture_of t m).mem (picture_of u n).mem simple
isolated_deblocked p t u m n a e f b d =
    let i = isolated p t u m n a e f b d in
    left_isolated p t u (picture_of t m).mem (picture_of u n).mem a (picture_left t m b e).fine (picture_left u n d f).fine
    (record {
      samples = i.samples;
      strengths = i.strengths;
      no_row = λ h. ap (λ (E : Ended). E.mem) (i.no_row h);
      no_difference = λ h. ap (λ (E : Ended). E.mem) (i.no_difference h);
      ignored = λ h. ap (λ (E : Ended). E.mem) (i.ignored h);
    })
