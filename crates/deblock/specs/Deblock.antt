-- Deblocking, RFC 6386, section 15: the kernel applied position by position along an edge, edge by edge in a macroblock, macroblock by
-- macroblock in raster order (section 15.1, 4713-4748), to each plane by itself: planes never meet. A plane is a list of samples, w to a
-- row: column x of row y is its element y * w + x. A position of an edge is a line of eight samples across it,
--
--     p3 p2 p1 p0 | q0 q1 q2 q3
--
-- from left to right over a vertical edge and from top to bottom over a horizontal one.
use Rattle.std.specs.Prelude.{◌+◌, ◌-◌, ◌*◌, ◌/◌, ◌%◌, ◌≡◌, ◌&&◌}
use Rattle.numbers.specs.Words.{ℕ, zero, suc, Bool, true, false, not, cond, eqb, leb, List, length, get_or, set, build, all_below, Result, Ok, Err}
use Rattle.filter.specs.Kernel.{filter_of}
use Rattle.filter.specs.declared.strengths.Strength.{Strength}
use Rattle.lent.specs.Memory.{records_in, strength_width, strength_at_of, luma_fine_of, chroma_fine_of, strengths_fine_of}
use Rattle.tile.specs.Tile.{sides_of, blocks_of}
use Rattle.macroblock.specs.Macroblock.{Planes}
pub use Rattle.deblock.specs.declared.edges.Edge.{Edge}
use Rattle.deblock.specs.declared.checks.DeblockError.{DeblockError}
use Rattle.deblock.specs.declared.checks.DeblockError.TheVariants as E

-- what becomes of a plane
abbrev pub Change : Type 0
Change = List ℕ → List ℕ

-- changes 0, 1, .. n - 1, one after the other
unfoldable pub turns : (ℕ → Change) → (n : ℕ) → Change
turns f zero p = p
turns f (suc n) p = f n (turns f n p)

-- the change where the test holds, else none
unfoldable pub when : Bool → Change → Change
when true f p = f p
when false f p = p

-- ---- one position (sections 15.2 and 15.3, through the kernel's `filter_of`)
-- the eight samples of p from the place `at` on, `step` apart
unfoldable pub across_of : List ℕ → (at step : ℕ) → List ℕ
across_of p at step = build 8 (λ k. get_or p (at + k * step) 0)

-- p with samples 1 to n of e in their places
unfoldable pub laid_back : List ℕ → (at step : ℕ) (e : List ℕ) (n : ℕ) → List ℕ
laid_back p at step e zero = p
laid_back p at step e (suc n) = set (laid_back p at step e n) (at + suc n * step) (get_or e (suc n) 0)

-- the eight as the kernel leaves them
unfoldable pub kept_of : Edge → List ℕ → List ℕ
kept_of g e = filter_of e g.simple g.outer g.limit g.inner g.threshold

-- those around the edge are laid back; the outermost two, p3 and q3, are only read, since the kernel never changes them (`position_at`)
unfoldable pub position_of : Edge → (at step : ℕ) → Change
position_of g at step p = laid_back p at step (kept_of g (across_of p at step)) 6

-- ---- one edge (section 15.1, 4715-4742): n positions, `along` apart
unfoldable pub sweep_of : Edge → (at along step n : ℕ) → Change
sweep_of g at along step n = turns (λ i. position_of g (at + i * along) step) n

-- the edge left of column x, in the n rows from y on
unfoldable pub vertical_edges : Edge → (w x y n : ℕ) → Change
vertical_edges g w x y n = sweep_of g (y * w + x - 4) w 1 n

-- the edge above row y, in the n columns from x on
unfoldable pub horizontal_edges : Edge → (w x y n : ℕ) → Change
horizontal_edges g w x y n = sweep_of g ((y - 4) * w + x) 1 w n

-- ---- one macroblock: its n by n square in a plane, 16 of luma and 8 of chroma, at the given column and row of macroblocks
-- what the kernel is told of an edge (section 15.4, 5298-5303): the edges to other macroblocks have the limit raised by 4, mbedge_limit
abbrev pub outer_edge : Bool → Strength → Edge
outer_edge simple t = record { simple = simple; outer = true; limit = t.limit + 4; inner = t.inner; threshold = t.threshold }

-- the edges inside a macroblock have the limit itself, sub_bedge_limit
abbrev pub inner_edge_of : Bool → Strength → Edge
inner_edge_of simple t = record { simple = simple; outer = false; limit = t.limit; inner = t.inner; threshold = t.threshold }

-- inner edge j, vertical where `upright` holds and else horizontal: at 4, 8, 12 in luma, at 4 in chroma
unfoldable pub inner_at : (upright : Bool) → Edge → (w x y n j : ℕ) → Change
inner_at true g w x y n j = vertical_edges g w (x + 4 * j + 4) y n
inner_at false g w x y n j = horizontal_edges g w x (y + 4 * j + 4) n

-- all of one direction, one after the other
unfoldable pub inners_of : (upright : Bool) → Edge → (w x y n : ℕ) → Change
inners_of upright g w x y n = turns (inner_at upright g w x y n) (n / 4 - 1)

-- in the order of section 15.1, 4750-4770: the left edge unless column 0, inner vertical edges, the top edge unless row 0, inner horizontal
-- edges; the inner ones where the inside byte is 1 (4785-4790)
unfoldable pub square_of : Bool → Strength → (w n column row : ℕ) → Change
square_of simple t w n column row p =
    let x = column * n in
    let y = row * n in
    let inside = eqb t.inside 1 in
    let a = when (not (eqb column 0)) (vertical_edges (outer_edge simple t) w x y n) p in
    let b = when inside (inners_of true (inner_edge_of simple t) w x y n) a in
    let c = when (not (eqb row 0)) (horizontal_edges (outer_edge simple t) w x y n) b in
    when inside (inners_of false (inner_edge_of simple t) w x y n) c

-- ---- one plane: the first m macroblocks in raster order, `wide` to a row; a limit of 0 means no filtering
unfoldable pub macroblock_edges : Bool → (strengths : List ℕ) → (n wide k : ℕ) → Change
macroblock_edges simple strengths n wide k =
    let t = strength_at_of strengths k in
    when (not (eqb t.limit 0)) (square_of simple t (wide * n) n (k % wide) (k / wide))

-- the first m macroblocks, one after the other
unfoldable pub raster_of : Bool → (strengths : List ℕ) → (n wide m : ℕ) → Change
raster_of simple strengths n wide m = turns (macroblock_edges simple strengths n wide) m

-- ---- the picture: the simple kind touches luma only (section 15.2, 4839-4840)
unfoldable pub planes_deblocked : Bool → (strengths : List ℕ) → (wide high : ℕ) → Planes → Planes
planes_deblocked simple strengths wide high m = record {
  y = raster_of simple strengths 16 wide (wide * high) m.y;
  u = when (not simple) (raster_of simple strengths 8 wide (wide * high)) m.u;
  v = when (not simple) (raster_of simple strengths 8 wide (wide * high)) m.v;
}

-- ---- the call
-- 4: the lengths of what is lent; 1, the sides, is `sides_of` of crate tile
unfoldable pub deblock_lengths : (w h y u v strengths : ℕ) → Bool
deblock_lengths w h y u v strengths = luma_fine_of w h y && chroma_fine_of w h u && chroma_fine_of w h v && strengths_fine_of w h strengths

-- as a fact
pub record DeblockLengths (w h y u v s : ℕ) : Type 0 where
  pub luma : y ≡ w * h
  pub blue : u ≡ w / 2 * (h / 2)
  pub red : v ≡ w / 2 * (h / 2)
  pub records : s ≡ strength_width * blocks_of w h

-- 11: every limit at most 189
unfoldable pub limits_of : List ℕ → Bool
limits_of strengths = all_below (records_in strength_width strengths) (λ k. leb (strength_at_of strengths k).limit 189)

-- the first check that fails, if one does
unfoldable pub deblock_checked : (w h y u v : ℕ) (strengths : List ℕ) → Result Unit DeblockError
deblock_checked w h y u v strengths =
    cond (sides_of w h) (cond (deblock_lengths w h y u v (length strengths)) (cond (limits_of strengths) (Ok tt) (Err E.Limit)) (Err E.Lengths)) (Err E.Sides)

-- its number
abbrev pub deblock_error_number_of : DeblockError → ℕ
deblock_error_number_of E.Sides = 1
deblock_error_number_of E.Lengths = 4
deblock_error_number_of E.Limit = 11

-- the answer's number, 0 where nothing is refused
abbrev pub deblock_number_of : Result Unit DeblockError → ℕ
deblock_number_of (Ok done) = 0
deblock_number_of (Err e) = deblock_error_number_of e

-- the number of the first check that fails, 0 where none does
unfoldable pub deblock_refusal : (w h y u v : ℕ) (strengths : List ℕ) → ℕ
deblock_refusal w h y u v strengths = deblock_number_of (deblock_checked w h y u v strengths)

-- what the call answers, and the planes after it
pub record DeblockAnswer : Type 0 where
  pub answer : Result Unit DeblockError
  pub planes : Planes

-- THE CALL: a bad argument is refused and nothing changes; else all planes are deblocked
unfoldable pub deblock_of : Planes → (strengths : List ℕ) → (w h : ℕ) (simple : Bool) → DeblockAnswer
deblock_of m strengths w h simple =
    elim (deblock_checked w h (length m.y) (length m.u) (length m.v) strengths) [
      | Ok done ↦ record { answer = Ok tt; planes = planes_deblocked simple strengths (w / 16) (h / 16) m }
      | Err e ↦ record { answer = Err e; planes = m }
    ]
