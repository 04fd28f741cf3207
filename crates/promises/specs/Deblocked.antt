-- What is promised of deblocking (request M-100): how far an edge reaches, which arguments are refused, that no sample of an unfinished
-- macroblock moves, and demand 3: what stands in token partition p decides nothing in the macroblock rows above row p, but for the lowest
-- three sample rows of each plane in row p-1. DeblockedLaws proves each: `edge_reaches`, `deblock_refused`, `grey_stays`, `isolated_deblocked`.
-- The last two are said of the memory that a call has left, so that they serve the rescue call too: RescueDeblockedLaws.
use Rattle.std.specs.Prelude.{◌+◌, ◌*◌, ◌/◌, ◌≤◌, ◌<◌, ◌≡◌}
use Rattle.numbers.specs.Words.{ℕ, Bool, List, length, get_or, Ok}
use Rattle.planes.specs.Paint.{sample_at}
use Rattle.lent.specs.Memory.{records_in, strength_width, strength_at_of, Memory}
use Rattle.macroblock.specs.Macroblock.{Planes}
use Rattle.tile.specs.Tile.{Sides}
use Rattle.choices.specs.Choices.{Call}
use Rattle.picture.specs.Picture.{planes_in}
use Rattle.deblock.specs.declared.edges.Edge.{Edge}
use Rattle.deblock.specs.Deblock.{sweep_of, DeblockLengths, DeblockAnswer, deblock_of, deblock_number_of}
use Rattle.promises.specs.Places.{Plane, luma, blue, red, plane_side, block_at}
use Rattle.promises.specs.Grey.{InPlane}
use Rattle.promises.specs.Isolation.{SameTokens}

-- ---- THE PROMISE of one edge of n positions. Sample k of position j is p3, p2, p1, p0 for k = 0 to 3 and q0, q1, q2, q3 for k = 4 to 7
abbrev pub sample_across : (at along step j k : ℕ) → ℕ
sample_across at along step j k = at + j * along + k * step

-- how far one edge reaches
pub record EdgeReaches (g : Edge) (at along step n : ℕ) : Type 0 where
  -- at most three samples on either side change: nothing but p2, p1, p0, q0, q1, q2 of its positions
  pub changes : (p : List ℕ) (i : ℕ) → ((j k : ℕ) → j < n → 0 < k → k < 7 → i ≡ sample_across at along step j k → ⊥) → get_or (sweep_of g at along step n p) i 0 ≡ get_or p i 0
  -- four on either side are looked at: planes that agree in them agree in them afterwards
  pub looks : (p q : List ℕ) → length p ≡ length q → ((j k : ℕ) → j < n → k < 8 → get_or p (sample_across at along step j k) 0 ≡ get_or q (sample_across at along step j k) 0)
      → (j k : ℕ) → j < n → k < 8 → get_or (sweep_of g at along step n p) (sample_across at along step j k) 0 ≡ get_or (sweep_of g at along step n q) (sample_across at along step j k) 0

-- ---- THE PROMISE of the call's refusals: 1, 4 and 11 in this order, each exactly where its check fails and none before it does; then nothing
-- changes
abbrev pub DeblockSized : Planes → (strengths : List ℕ) → (w h : ℕ) → Type 0
DeblockSized d s w h = DeblockLengths w h (length d.y) (length d.u) (length d.v) (length s)

-- the number that the deblocking call answers
abbrev pub numbered : Planes → (strengths : List ℕ) → (w h : ℕ) (simple : Bool) → ℕ
numbered d s w h simple = deblock_number_of (deblock_of d s w h simple).answer

-- which argument is refused by which number
pub record DeblockRefused (d : Planes) (s : List ℕ) (w h : ℕ) (simple : Bool) : Type 0 where
  pub unchanged : (numbered d s w h simple ≡ 0 → ⊥) → (deblock_of d s w h simple).planes ≡ d
  pub side : (Sides w h → ⊥) → numbered d s w h simple ≡ 1
  pub sized : Sides w h → (DeblockSized d s w h → ⊥) → numbered d s w h simple ≡ 4
  pub limit : Sides w h → DeblockSized d s w h → (k : ℕ) → k < records_in strength_width s → 189 < (strength_at_of s k).limit → numbered d s w h simple ≡ 11
  pub none : Sides w h → DeblockSized d s w h → ((k : ℕ) → k < records_in strength_width s → (strength_at_of s k).limit ≤ 189) → numbered d s w h simple ≡ 0

-- ---- the deblocking call on the lent memory that a call for the tile has left
abbrev pub deblocked_of : Call → (left : Memory) → Bool → DeblockAnswer
deblocked_of t left simple = deblock_of (planes_in left) left.strengths t.tile.width t.tile.height simple

-- one of the three
abbrev pub plane : Plane → Planes → List ℕ
plane luma d = d.y
plane blue d = d.u
plane red d = d.v

-- the sample at column c of row r of a plane after it
abbrev pub sample_after : Call → (left : Memory) → Bool → Plane → (c r : ℕ) → ℕ
sample_after t left simple a c r = sample_at (plane a (deblocked_of t left simple).planes) (t.tile.width / 16 * plane_side a) c r

-- THE PROMISE of memory whose macroblocks are grey from number k on: it is never refused; and no sample of those moves, so that grey stays grey
pub record GreyStays (t : Call) (left : Memory) (k : ℕ) (simple : Bool) : Type 0 where
  pub answer : (deblocked_of t left simple).answer ≡ Ok tt
  pub grey : (a : Plane) (c r : ℕ) → InPlane t a c r → k ≤ block_at (t.tile.width / 16) a c r → sample_after t left simple a c r ≡ 128

-- THE PROMISE of what is left for two tiles alike in all but the bytes of token partition p
pub record IsolatedDeblocked (p : ℕ) (t u : Call) (one two : Memory) (simple : Bool) : Type 0 where
  -- neither is refused
  pub first : (deblocked_of t one simple).answer ≡ Ok tt
  pub second : (deblocked_of u two simple).answer ≡ Ok tt
  -- the same samples in all macroblock rows above row p, the lowest three sample rows excepted
  pub samples : (a : Plane) (c r : ℕ) → c < t.tile.width / 16 * plane_side a → r + 3 < p * plane_side a → sample_after t one simple a c r ≡ sample_after u two simple a c r
  -- if no row p exists, or nothing differs, or partition p is past the count, all agree
  pub no_row : t.tile.height / 16 ≤ p → deblocked_of t one simple ≡ deblocked_of u two simple
  pub no_difference : SameTokens t u p → deblocked_of t one simple ≡ deblocked_of u two simple
  pub ignored : t.tile.count ≤ p → deblocked_of t one simple ≡ deblocked_of u two simple
