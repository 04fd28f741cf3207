-- One macroblock.
use Rattle.std.specs.Prelude.{◌*◌, ◌/◌, ◌%◌, ◌&&◌, ◌||◌, ◌≤◌, ◌<◌, ◌≡◌}
use Rattle.numbers.specs.Words.{Result, ℕ, Bool, true, false, not, eqb, ltb, leb, List, length, get_or, take, drop, replicate, ℤ, pos, negsuc, Each, Ok, Err}
use Rattle.header.specs.Header.{probability_count}
use Rattle.reader.specs.declared.boolean.Reader.{Reader}
use Rattle.reader.specs.Reading.{Given, given, missing, valid_of, run, Valid, count}
use Rattle.header.specs.declared.frame.Frame.{Frame}
use Rattle.header.specs.Frame.{factors_at, level_at}
use Rattle.modes.specs.Modes.{Macroblock, modes_of, bottom_of, right_of, kinds_of, empty_context, context_fine_of, contexts_of}
use Rattle.modes.specs.declared.contexts.Context.{Context}
use Rattle.residual.specs.Residual.{Model, residual_of, Flags}
use Rattle.planes.specs.Paint.{square_painted, paint_of}
use Rattle.filter.specs.declared.strengths.Strength.{Strength}
use Rattle.filter.specs.Strengths.{strength_of_of, no_strength, strength_answer, strengths_values_of}
pub use Rattle.macroblock.specs.declared.arguments.Place.{Place}
pub use Rattle.macroblock.specs.declared.arguments.Readers.{Readers}
pub use Rattle.macroblock.specs.declared.arguments.Around.{Around}
pub use Rattle.macroblock.specs.declared.ending.Outcome.{Outcome}
use Rattle.macroblock.specs.declared.ending.Unfinished.{Unfinished}
use Rattle.macroblock.specs.declared.ending.Unfinished.TheVariants as F
use Rattle.macroblock.specs.declared.ending.Residue.{Residue}
use Rattle.header.specs.FrameLaws.{Probabilities, Sound}
pub use Rattle.macroblock.specs.declared.arguments.SymbolCounts.{SymbolCounts}

-- ==== One macroblock (the source's vp8_macroblock): its modes, then its residual, then its three squares, its strengths and the contexts
-- that it leaves. Where a byte is missing nothing is painted.

-- how it ends: finished, with the readers after it, or where it stopped
abbrev pub Finish : Type 0
Finish = Result Readers Unfinished

-- ---- the three planes, before a macroblock and after it
pub record Planes : Type 0 where
  pub y : List ℕ
  pub u : List ℕ
  pub v : List ℕ

-- the three put together
abbrev pub planes_of : (y u v : List ℕ) → Planes
planes_of y u v = record { y = y; u = u; v = v }

-- a macroblock that is finished: its modes, its strengths, the contexts that it leaves below and to the right, the readers after it, the
-- planes with its samples
pub record Finished : Type 0 where
  pub modes : Macroblock
  pub strength : Strength
  pub top : Context
  pub left : Context
  pub readers : Readers
  pub planes : Planes

-- a macroblock is finished, or its modes (6) or its tokens (7) ran out
pub data Step : Type 0 where
  finished : Finished → Step
  no_modes : Step
  no_tokens : Step

-- ---- its samples: the coefficients of 16 blocks of luma, then 4 of U and 4 of V
abbrev pub painted_planes : Place → Macroblock → List ℤ → Planes → Planes
painted_planes place m c p =
    let w = place.width in
    let x = place.column in
    let y = place.row in
    record {
      y = square_painted p.y w (x * 16) (y * 16) 16 m.small (get_or m.modes 0 0) m.modes (take 256 c);
      u = square_painted p.u (w / 2) (x * 8) (y * 8) 8 false m.chroma m.modes (take 64 (drop 256 c));
      v = square_painted p.v (w / 2) (x * 8) (y * 8) 8 false m.chroma m.modes (take 64 (drop 320 c));
    }

-- its strengths: the inner edges are filtered where the modes are small or something was coded (RFC 6386, section 15.1, 4785-4790)
abbrev pub strength_made : Frame → Macroblock → (empty : Bool) → Strength
strength_made f m empty = strength_of_of (level_at f m.small m.segment) f.sharp (m.small || not empty)

-- the contexts that it leaves: to the macroblock below
abbrev pub below : Macroblock → (flags : List ℕ) → Context
below m flags = record { modes = bottom_of m.modes; flags = flags }

-- to the one on its right: its last column of modes, and its flags
abbrev pub beside : Macroblock → (flags : List ℕ) → Context
beside m flags = record { modes = right_of m.modes; flags = flags }

-- all that a finished macroblock is, from its modes and its residual
unfoldable pub end_of : Frame → Place → Planes → Macroblock → (next : Reader) → Model → (after : Reader) → Finished
end_of f place p m next d after = record {
  modes = m;
  strength = strength_made f m d.empty;
  top = below m d.top;
  left = beside m d.left;
  readers = record { first = next; token = after };
  planes = painted_planes place m d.coefficients p;
}

-- finished, where the tokens were there
abbrev pub after_tokens : (Model → Reader → Finished) → Given Model → Step
after_tokens end (given d after) = finished (end d after)
after_tokens end missing = no_tokens

-- the rest, where the modes were there
abbrev pub after_modes : (Macroblock → Reader → Step) → Given Macroblock → Step
after_modes rest (given m next) = rest m next
after_modes rest missing = no_modes

-- modes are read before tokens; each from its own partition
abbrev pub token_step : (tokens : List ℕ) → Reader → Frame → (table : List ℕ) → Around → Place → Planes → Macroblock → (next : Reader) → Step
token_step tokens t f table around place p m next =
    after_tokens (end_of f place p m next)
    (run (residual_of table (factors_at f m.segment) m.small m.skip around.top.flags around.left.flags) tokens t)

-- one macroblock: its modes from `first`, then its tokens from `tokens`
unfoldable pub step_of : (first tokens : List ℕ) → Readers → Frame → (table : List ℕ) → Around → Place → Planes → Step
step_of first tokens readers f table around place p =
    after_modes (token_step tokens readers.token f table around place p)
    (run (modes_of f.announced around.top.modes around.left.modes) first readers.first)

-- ---- the answer: zeros where the macroblock is not finished
abbrev pub no_outcome : Finish → Outcome
no_outcome a = record {
  answer = a;
  kinds = record { segment = 0; skip = false; small = false; chroma = 0 };
  modes = replicate 16 0;
  strength = no_strength;
  top = empty_context;
  left = empty_context;
}

-- what is told of a finished macroblock
abbrev pub shown : Finished → Outcome
shown x = record {
  answer = Ok x.readers;
  kinds = kinds_of x.modes;
  modes = x.modes.modes;
  strength = x.strength;
  top = x.top;
  left = x.left;
}

-- and the planes, which are written only where it is
pub record MacroblockCalled : Type 0 where
  pub answer : Outcome
  pub planes : Planes

-- an outcome and three planes as one
abbrev pub macroblock_called : Outcome → (y u v : List ℕ) → MacroblockCalled
macroblock_called x y u v = record { answer = x; planes = planes_of y u v }

-- a step as the call's answer and the planes after it
abbrev pub to_macroblock_called : Planes → Step → MacroblockCalled
to_macroblock_called old (finished x) = record { answer = shown x; planes = x.planes }
to_macroblock_called old no_modes = record { answer = no_outcome (Err F.NoModes); planes = old }
to_macroblock_called old no_tokens = record { answer = no_outcome (Err F.NoTokens); planes = old }

-- ---- the call
-- what is read: readers in range, a table of 1056 probabilities, contexts in range, levels of at most 63
abbrev pub levels_fine_of : List ℕ → Bool
levels_fine_of l = (leb (get_or l 0 0) 63 && leb (get_or l 1 0) 63) && (leb (get_or l 2 0) 63 && leb (get_or l 3 0) 63)

-- of either kind of modes
abbrev pub frame_fine_of : Frame → Bool
frame_fine_of f = levels_fine_of f.large && levels_fine_of f.small

-- the contexts above and to the left
abbrev pub around_fine_of : Around → Bool
around_fine_of around = context_fine_of around.top && context_fine_of around.left

-- all that is read is in range
unfoldable pub ready_of : (first tokens : List ℕ) → Readers → Frame → (size : ℕ) → Around → Bool
ready_of first tokens readers f size around =
    (valid_of first readers.first && valid_of tokens readers.token)
    && (eqb size probability_count && (around_fine_of around && frame_fine_of f))

-- where it is painted: planes of whole macroblocks, by their lengths, at most 16384 samples wide and high, and this one among them
unfoldable pub place_fine : (y u v : ℕ) → Place → Bool
place_fine y u v place =
    let w = place.width in
    let rows = y / w / 16 in
    let chroma = rows * 8 * (w / 2) in
    ltb place.column (w / 16)
    && ((leb w 16384 && leb rows 1024)
    && ((eqb (w % 16) 0 && ltb place.row rows)
    && (eqb y (rows * 16 * w) && (eqb u chroma && eqb v chroma))))

-- `decode`: refused where one of these is out of range, and then the planes stay
unfoldable pub macroblock_call_of : (first tokens : List ℕ) → Readers → Frame → (table : List ℕ) → Around → Place → Planes → MacroblockCalled
macroblock_call_of first tokens readers f table around place p =
    elim (ready_of first tokens readers f (length table) around && place_fine (length p.y) (length p.u) (length p.v) place) [
      | true ↦ to_macroblock_called p (step_of first tokens readers f table around place p)
      | false ↦ record { answer = no_outcome (Err F.Refused); planes = p }
    ]

-- ---- the answer as a number
abbrev pub finish_number_of : Finish → ℕ
finish_number_of (Ok readers) = 0
finish_number_of (Err F.NoModes) = 6
finish_number_of (Err F.NoTokens) = 7
finish_number_of (Err F.Refused) = 9

-- ==== The end of a macroblock, once its modes and its residual are read: as `end_of` has it where all is in range, and else whatever can be made.

-- each of the three squares painted, or as it was where it cannot be
abbrev pub squares_of : Place → Macroblock → List ℤ → Planes → Planes
squares_of place m c p =
    let w = place.width in
    let x = place.column in
    let y = place.row in
    record {
      y = (paint_of p.y w x y 16 m.small (get_or m.modes 0 0) m.modes (take 256 c)).plane;
      u = (paint_of p.u (w / 2) x y 8 false m.chroma m.modes (take 64 (drop 256 c))).plane;
      v = (paint_of p.v (w / 2) x y 8 false m.chroma m.modes (take 64 (drop 320 c))).plane;
    }

-- what a residual leaves beside its coefficients
abbrev pub residue_of : Model → (after : Reader) → Residue
residue_of d after = record { after = after; empty = d.empty; top = d.top; left = d.left }

-- what is told of it; strengths of zeros where the level is out of range
abbrev pub end_outcome : Frame → Macroblock → (next : Reader) → Residue → Outcome
end_outcome f m next d = record {
  answer = Ok (record { first = next; token = d.after });
  kinds = kinds_of m;
  modes = m.modes;
  strength = strengths_values_of (strength_answer (level_at f m.small m.segment) f.sharp (m.small || not d.empty));
  top = below m d.top;
  left = beside m d.left;
}

-- `complete`
abbrev pub macroblock_ended : Frame → Place → Macroblock → (next : Reader) → Residue → (c : List ℤ) → Planes → MacroblockCalled
macroblock_ended f place m next d c p = record { answer = end_outcome f m next d; planes = squares_of place m c p }

-- ==== What the functions of a macroblock ask of each other, and what is left of a macroblock once its modes are read.

-- the planes hold whole macroblocks, and the one at this place is among them
pub record Laid (place : Place) (p : Planes) : Type 0 where
  pub columns : ℕ
  pub rows : ℕ
  pub width : place.width ≡ columns * 16
  pub wide : place.width ≤ 16384
  pub high : rows * 16 ≤ 16384
  pub across : place.column < columns
  pub down : place.row < rows
  pub luma : length p.y ≡ rows * 16 * place.width
  pub blue : length p.u ≡ rows * 8 * (place.width / 2)
  pub red : length p.v ≡ rows * 8 * (place.width / 2)

-- what can be painted: modes and coefficients in range
pub record Painting (m : Macroblock) (c : List ℤ) : Type 0 where
  pub chroma : m.chroma < 4
  pub large : m.small ≡ false → get_or m.modes 0 0 < 4
  pub small : m.small ≡ true → (k : ℕ) → k < 16 → get_or m.modes k 0 < 10
  pub long : length c ≡ 384
  pub each : Each (negsuc 32767) (pos 32767) c

-- what is read, and what it is read by
pub record Ready (first tokens : List ℕ) (readers : Readers) (f : Frame) (table : List ℕ) (around : Around) : Type 0 where
  pub reader : Valid first readers.first
  pub token : Valid tokens readers.token
  pub size : length table ≡ probability_count
  pub contexts : contexts_of around.top.modes around.left.modes ≡ true
  pub top : Flags around.top.flags
  pub left : Flags around.left.flags
  pub sound : Sound f

-- of these, what the tokens ask
pub record Tokens (tokens : List ℕ) (t : Reader) (f : Frame) (table : List ℕ) (around : Around) : Type 0 where
  pub token : Valid tokens t
  pub size : length table ≡ probability_count
  pub top : Flags around.top.flags
  pub left : Flags around.left.flags
  pub sound : Sound f

-- the same of a macroblock without tokens
pub record Legible (first : List ℕ) (r : Reader) (f : Frame) (around : Around) : Type 0 where
  pub reader : Valid first r
  pub contexts : contexts_of around.top.modes around.left.modes ≡ true
  pub top : Flags around.top.flags
  pub left : Flags around.left.flags
  pub sound : Sound f

-- what the types of a frame and of two contexts say: the arrays' lengths, and that a byte is one
pub record FrameSizes (f : Frame) : Type 0 where
  pub large : length f.large ≡ 4
  pub small : length f.small ≡ 4
  pub probabilities : Probabilities f.announced

pub record AroundSizes (around : Around) : Type 0 where
  pub top : length around.top.flags ≡ 9
  pub left : length around.left.flags ≡ 9

-- from where the modes are read
unfoldable pub tokens_called : (tokens : List ℕ) → Reader → Frame → (table : List ℕ) → Around → Place → Macroblock → (next : Reader) → Planes → MacroblockCalled
tokens_called tokens t f table around place m next p = to_macroblock_called p (token_step tokens t f table around place p m next)

-- ==== How many symbols a macroblock reads (M-103): those of its modes from the first partition, then those of its coefficients from its row's
-- token partition. Where a byte is missing, those before it; tokens are asked only once the modes are read.

-- both counts
abbrev pub reads_made : (first tokens : ℕ) → SymbolCounts
reads_made first tokens = record { first = first; tokens = tokens }

-- nothing was read
abbrev pub no_reads : SymbolCounts
no_reads = reads_made 0 0

-- the symbols of its coefficients (RFC 6386, section 19.3, 7316-7352), its modes being m; none where these ran out
abbrev pub macroblock_token_reads : (tokens : List ℕ) → Reader → Frame → (table : List ℕ) → Around → Given Macroblock → ℕ
macroblock_token_reads tokens t f table around (given m next) = count (residual_of table (factors_at f m.segment) m.small m.skip around.top.flags around.left.flags) tokens t
macroblock_token_reads tokens t f table around missing = 0

-- with those of its modes (section 19.3, 7239-7272)
unfoldable pub reads_of : (first tokens : List ℕ) → Readers → Frame → (table : List ℕ) → Around → SymbolCounts
reads_of first tokens readers f table around =
    let modes = modes_of f.announced around.top.modes around.left.modes in
    record {
      first = count modes first readers.first;
      tokens = macroblock_token_reads tokens readers.token f table around (run modes first readers.first);
    }

-- `decode`: none where an argument is out of range
unfoldable pub decode_reads : (first tokens : List ℕ) → Readers → Frame → (table : List ℕ) → Around → Place → Planes → SymbolCounts
decode_reads first tokens readers f table around place p =
    elim (ready_of first tokens readers f (length table) around && place_fine (length p.y) (length p.u) (length p.v) place) [
      | true ↦ reads_of first tokens readers f table around
      | false ↦ no_reads
    ]

-- the most that n macroblocks read: 119 symbols each from the first partition, 7296 each from token partitions
pub record AtMost (n : ℕ) (reads : SymbolCounts) : Type 0 where
  pub first : reads.first ≤ 119 * n
  pub tokens : reads.tokens ≤ 7296 * n
