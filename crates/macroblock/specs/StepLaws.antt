-- The laws of one macroblock for whoever decodes many: which way it goes, what it leaves, and what it does not touch. Nothing of its
-- definition is needed beside them.
use Rattle.std.specs.Prelude.{◌+◌, ◌*◌, ◌/◌, ◌≤◌, ◌<◌, ◌≡◌, ◌||◌}
use Rattle.numbers.specs.Words.{ℕ, arith, refl, sym, ◌∙◌, ap, ap₂, subst, Bool, true, false, not, List, length, get_or, take, drop, ℤ, Ok, Err}
use Rattle.reader.specs.declared.boolean.Reader.{Reader}
use Rattle.reader.specs.Reading.{Given, given, missing, run}
use Rattle.reader.specs.ReadingLaws.{Bytes, Valid, ReadTo, run_valid}
use Rattle.modes.specs.Modes.{macroblock_of, Macroblock, modes_of, bottom_of, right_of, context_fine_of, Shaped}
use Rattle.modes.specs.ModesLaws.{InRange, modes_within, modes_test, bottom_modes, right_modes}
use Rattle.modes.specs.declared.contexts.Context.{Context}
use Rattle.residual.specs.Residual.{Model, ModelInRange, Flags, residual_of}
use Rattle.residual.specs.ResidualLaws.{residual_within}
use Rattle.planes.specs.Paint.{PaintedPlane, sample_at, square_painted, paint_of}
use Rattle.planes.specs.PaintLaws.{length_paint, paint_bytes, paint_off, paint_good}
use Rattle.planes.specs.Places.{Outside}
use Rattle.macroblock.specs.declared.ending.Unfinished.TheVariants as F
use Rattle.header.specs.FrameLaws.{Sound, frame_sound, frame_announced, frame_factors, frame_level_lem, frame_sharp}
use Rattle.filter.specs.Strengths.{strength_of_of}
use Rattle.filter.specs.StrengthsLaws.{limit_most}
use Rattle.header.specs.declared.frame.Frame.{Frame}
use Rattle.header.specs.Frame.{frame_of, factors_at, level_at}
use Rattle.macroblock.specs.Macroblock.{Finish, Outcome, Place, Readers, Around, Planes, Finished, Step, finished, no_modes, no_tokens, MacroblockCalled, to_macroblock_called, painted_planes, strength_made, below, beside, end_of, after_tokens, after_modes, token_step, step_of, macroblock_call_of, finish_number_of, Laid, Painting, Ready}
use Rattle.macroblock.specs.Source.{Source}
use Rattle.macroblock.specs.MacroblockLaws.{painting, luma_proper, chroma_proper}
use Rattle.macroblock.specs.DecodeLaws.{context_test, decode_good}

-- ---- a plane in which one square was painted
-- its length stays, its samples are bytes again, and those outside the square are what they were
pub record Kept (w x y n : ℕ) (old new : List ℕ) : Type 0 where
  pub long : length new ≡ length old
  pub bytes : Bytes old → Bytes new
  pub off : (c r : ℕ) → c < w → Outside x y n c r → sample_at new w c r ≡ sample_at old w c r

-- the three planes around a macroblock
pub record Elsewhere (place : Place) (p q : Planes) : Type 0 where
  pub y : Kept place.width (place.column * 16) (place.row * 16) 16 p.y q.y
  pub u : Kept (place.width / 2) (place.column * 8) (place.row * 8) 8 p.u q.u
  pub v : Kept (place.width / 2) (place.column * 8) (place.row * 8) 8 p.v q.v

kept_paint : (p : List ℕ) (w column row n : ℕ) (small : Bool) (mode : ℕ) (modes : List ℕ) (c : List ℤ) → Kept w (column * n) (row * n) n p (paint_of p w column row n small mode modes c).plane
kept_paint p w column row n small mode modes c =
    record { long = length_paint p w column row n small mode modes c; bytes = paint_bytes p w column row n small mode modes c; off = paint_off p w column row n small mode modes c }

planes_kept : {place : Place} {p : Planes} {m : Macroblock} {c : List ℤ} → Laid place p → Painting m c → Elsewhere place p (painted_planes place m c p)
planes_kept {place} {p} {m} {c} g h = record { y = luma; u = chroma p.u g.blue 256 (omega arith); v = chroma p.v g.red 320 (omega arith) }
  where
    luma : Kept place.width (place.column * 16) (place.row * 16) 16 p.y (painted_planes place m c p).y
    luma =
        subst (λ (o : PaintedPlane). Kept place.width (place.column * 16) (place.row * 16) 16 p.y o.plane)
        (paint_good p.y place.width place.column place.row 16 m.small (get_or m.modes 0 0) m.modes (take 256 c) (luma_proper g h))
        (kept_paint p.y place.width place.column place.row 16 m.small (get_or m.modes 0 0) m.modes (take 256 c))

    chroma : (q : List ℕ) → length q ≡ g.rows * 8 * (place.width / 2) → (k : ℕ) → k + 64 ≤ 384
        → Kept (place.width / 2) (place.column * 8) (place.row * 8) 8 q (square_painted q (place.width / 2) (place.column * 8) (place.row * 8) 8 false m.chroma m.modes (take 64 (drop k c)))
    chroma q e k l =
        subst (λ (o : PaintedPlane). Kept (place.width / 2) (place.column * 8) (place.row * 8) 8 q o.plane)
        (paint_good q (place.width / 2) place.column place.row 8 false m.chroma m.modes (take 64 (drop k c)) (chroma_proper g h q e k l))
        (kept_paint q (place.width / 2) place.column place.row 8 false m.chroma m.modes (take 64 (drop k c)))

-- ---- what a finished macroblock leaves: readers in range and no earlier, modes in range, contexts in range, a limit of at most 189
pub record Ends (s tokens : List ℕ) (readers : Readers) (x : Finished) : Type 0 where
  pub first : Valid s x.readers.first
  pub later : readers.first.at ≤ x.readers.first.at
  pub token : Valid tokens x.readers.token
  pub token_later : readers.token.at ≤ x.readers.token.at
  pub modes : InRange x.modes
  pub top : context_fine_of x.top ≡ true
  pub left : context_fine_of x.left ≡ true
  pub top_sized : Shaped x.top
  pub left_sized : Shaped x.left
  pub top_flags : Flags x.top.flags
  pub left_flags : Flags x.left.flags
  pub limit : x.strength.limit ≤ 189

-- ---- the answers are apart
abbrev step_number : Step → ℕ
step_number (finished x) = 0
step_number no_modes = 6
step_number no_tokens = 7

pub apart : {g k : Step} → g ≡ k → (step_number g ≡ step_number k → ⊥) → ⊥
apart e n = n (ap step_number e)

abbrev given_or : Finished → Step → Finished
given_or d (finished x) = x
given_or d no_modes = d
given_or d no_tokens = d

pub finished_is : {x y : Finished} → finished x ≡ finished y → x ≡ y
finished_is {x} e = ap (given_or x) e

-- ---- the same of the macroblock that its parts make
module _ (f : Frame) (place : Place) (p : Planes) (m : Macroblock) (d : Model) {s tokens : List ℕ} {readers : Readers} {q u : Reader} where
  pub end_ends : Sound f → ReadTo InRange s readers.first m q → ReadTo ModelInRange tokens readers.token d u → Ends s tokens readers (end_of f place p m q d u)
  unfolding end_of
  end_ends k i e =
      let o = i.value.luma.each in
      record {
        first = i.valid;
        later = i.later;
        token = e.valid;
        token_later = e.later;
        modes = i.value;
        top = context_test (below m d.top) (modes_test (bottom_of m.modes) (bottom_modes m.modes o)) e.value.top;
        left = context_test (beside m d.left) (modes_test (right_of m.modes) (right_modes m.modes o)) e.value.left;
        top_sized = record { modes = refl; flags = e.value.top.long };
        left_sized = record { modes = refl; flags = e.value.left.long };
        top_flags = e.value.top;
        left_flags = e.value.left;
        limit = limit_most (level_at f m.small m.segment) f.sharp (m.small || not d.empty) (k.levels m.small m.segment);
      }

  pub end_outside : Laid place p → ReadTo InRange s readers.first m q → ReadTo ModelInRange tokens readers.token d u → Elsewhere place p (end_of f place p m q d u).planes
  unfolding end_of
  end_outside g i e = planes_kept g (painting i.value e.value)

pub record SameModes (x y : Finished) : Type 0 where
  pub modes : x.modes ≡ y.modes
  pub first : x.readers.first ≡ y.readers.first
  pub bottom : x.top.modes ≡ y.top.modes
  pub side : x.left.modes ≡ y.left.modes

module _ (s tokens : List ℕ) (readers : Readers) (f : Frame) (table : List ℕ) (around : Around) (place : Place) (p : Planes) where
  abbrev call : Step
  call = step_of s tokens readers f table around place p

  -- what the two grammars give
  abbrev pub modes_run : Given Macroblock
  modes_run = run (modes_of f.announced around.top.modes around.left.modes) s readers.first

  abbrev pub tokens_run : Macroblock → Given Model
  tokens_run m = run (residual_of table (factors_at f m.segment) m.small m.skip around.top.flags around.left.flags) tokens readers.token

  -- ---- the three ways
  pub step_no_modes : modes_run ≡ missing → call ≡ no_modes
  unfolding step_of
  step_no_modes e = ap (after_modes (token_step tokens readers.token f table around place p)) e

  module _ (m : Macroblock) (q : Reader) (e : modes_run ≡ given m q) where
    with_modes : call ≡ after_tokens (end_of f place p m q) (tokens_run m)
    unfolding step_of
    with_modes = ap (after_modes (token_step tokens readers.token f table around place p)) e

    pub step_no_tokens : tokens_run m ≡ missing → call ≡ no_tokens
    step_no_tokens g = with_modes ∙ ap (after_tokens (end_of f place p m q)) g

    pub step_done : {d : Model} {u : Reader} → tokens_run m ≡ given d u → call ≡ finished (end_of f place p m q d u)
    step_done g = with_modes ∙ ap (after_tokens (end_of f place p m q)) g

  -- there is no other
  by_way : (P : Step → Type 0) → (modes_run ≡ missing → P no_modes)
      → ((m : Macroblock) (q : Reader) → modes_run ≡ given m q → tokens_run m ≡ missing → P no_tokens)
      → ((m : Macroblock) (q : Reader) (d : Model) (u : Reader) → modes_run ≡ given m q → tokens_run m ≡ given d u → P (finished (end_of f place p m q d u)))
      → P call
  by_way P a b c = go modes_run refl
    where
      inner : (m : Macroblock) (q : Reader) → modes_run ≡ given m q → (g : Given Model) → tokens_run m ≡ g → P call
      inner m q e (given d u) k = subst P (sym (step_done m q e k)) (c m q d u e k)
      inner m q e missing k = subst P (sym (step_no_tokens m q e k)) (b m q e k)

      go : (g : Given Macroblock) → modes_run ≡ g → P call
      go (given m q) e = inner m q e (tokens_run m) refl
      go missing e = subst P (sym (step_no_modes e)) (a e)

  -- ---- what each answer says of the two grammars
  -- its modes ran out: `step_no_modes` is the converse
  pub step_refused_modes : call ≡ no_modes → modes_run ≡ missing
  step_refused_modes = by_way (λ (g : Step). g ≡ no_modes → modes_run ≡ missing) (λ e k. e) (λ m q e g k. absurd (apart k (omega arith))) (λ m q d u e g k. absurd (apart k (omega arith)))

  -- its modes were given and its tokens ran out: `step_no_tokens` is the converse
  pub record NoTokens : Type 0 where
    pub modes : Macroblock
    pub first : Reader
    pub gave : modes_run ≡ given modes first
    pub out : tokens_run modes ≡ missing

  pub step_refused_tokens : call ≡ no_tokens → NoTokens
  step_refused_tokens =
      by_way (λ (g : Step). g ≡ no_tokens → NoTokens) (λ e k. absurd (apart k (omega arith)))
      (λ m q e g k. record { modes = m; first = q; gave = e; out = g }) (λ m q d u e g k. absurd (apart k (omega arith)))

  -- both were given: `step_done` is the converse
  pub record Both (x : Finished) : Type 0 where
    pub model : Model
    pub modes : modes_run ≡ given x.modes x.readers.first
    pub coefficients : tokens_run x.modes ≡ given model x.readers.token
    pub top : x.top ≡ below x.modes model.top
    pub left : x.left ≡ beside x.modes model.left
    pub strengths : x.strength ≡ strength_made f x.modes model.empty
    pub is : x ≡ end_of f place p x.modes x.readers.first model x.readers.token

  pub step_both : {x : Finished} → call ≡ finished x → Both x
  unfolding end_of
  step_both {x} =
      by_way (λ (g : Step). g ≡ finished x → Both x) (λ e k. absurd (apart k (omega arith))) (λ m q e g k. absurd (apart k (omega arith)))
      (λ m q d u e g k. subst Both (finished_is k) (record { model = d; modes = e; coefficients = g; top = refl; left = refl; strengths = refl; is = refl }))

  -- ---- a macroblock that is finished
  module _ (a : Ready s tokens readers f table around) (y : Bytes s) (z : Bytes tokens) (b : Bytes table) {x : Finished} (e : call ≡ finished x) where
    abbrev both : Both x
    both = step_both e

    read : ReadTo InRange s readers.first x.modes x.readers.first
    read = run_valid (modes_within f.announced a.sound.announced around.top.modes around.left.modes) y a.reader both.modes

    coded : ReadTo ModelInRange tokens readers.token both.model x.readers.token
    coded = run_valid (residual_within table (factors_at f x.modes.segment) b x.modes.small x.modes.skip a.top a.left) z a.token both.coefficients

    -- its flags and coefficients are in range
    pub step_whole : ModelInRange (step_both e).model
    step_whole = coded.value

    -- THE LAW of what it leaves
    pub step_ends : Ends s tokens readers x
    step_ends = subst (Ends s tokens readers) (sym both.is) (end_ends f place p x.modes both.model a.sound read coded)

    -- what it does to the planes
    pub step_outside : Laid place p → Elsewhere place p x.planes
    step_outside g = subst (λ (n : Finished). Elsewhere place p n.planes) (sym both.is) (end_outside f place p x.modes both.model g read coded)

-- ---- with the frame of a header, in the source's words
module _ (h : List ℤ) (s tokens : List ℕ) (readers : Readers) (table : List ℕ) (around : Around) (place : Place) (p : Planes) where
  pub step_source : Valid s readers.first → Bytes s → {x : Finished} → step_of s tokens readers (frame_of h) table around place p ≡ finished x → Source h s tokens readers table around x
  step_source v y {x} e =
      let b = step_both s tokens readers (frame_of h) table around place p e in
      let sound = (frame_sound h).announced in
      let l : x.modes.segment < 4 = (run_valid (modes_within (frame_of h).announced sound around.top.modes around.left.modes) y v b.modes).value.segment in
      record {
        model = b.model;
        modes = rw (frame_announced h) at b.modes;
        coefficients = rw (frame_factors h x.modes.segment l) at b.coefficients;
        strengths = b.strengths ∙ ap₂ (λ (n k : ℕ). strength_of_of n k (x.modes.small || not b.model.empty)) (frame_level_lem h x.modes.small x.modes.segment l) (frame_sharp h);
        top = b.top;
        left = b.left;
      }

-- ---- what an answer, with the planes behind it, says of the step. Good arguments are never refused, so a refusal may be sent anywhere
abbrev pub from_finish : Outcome → Planes → Finish → Step
from_finish x q (Ok readers) =
    finished (record { modes = macroblock_of x.kinds x.modes; strength = x.strength; top = x.top; left = x.left; readers = readers; planes = q })
from_finish x q (Err F.NoModes) = no_modes
from_finish x q (Err F.NoTokens) = no_tokens
from_finish x q (Err F.Refused) = no_modes

abbrev pub from_macroblock_called : MacroblockCalled → Step
from_macroblock_called c = from_finish c.answer c.planes c.answer.answer

from_called : (p : Planes) (g : Step) → g ≡ from_macroblock_called (to_macroblock_called p g)
from_called p (finished x) = refl
from_called p no_modes = refl
from_called p no_tokens = refl

not_refused : (p : Planes) (g : Step) → (to_macroblock_called p g).answer.answer ≡ Err F.Refused → ⊥
not_refused p (finished x) e = let z : ◌≡◌ {A = ℕ} 0 9 = ap finish_number_of e in omega arith
not_refused p no_modes e = let z : ◌≡◌ {A = ℕ} 6 9 = ap finish_number_of e in omega arith
not_refused p no_tokens e = let z : ◌≡◌ {A = ℕ} 7 9 = ap finish_number_of e in omega arith

module _ (s tokens : List ℕ) (readers : Readers) (f : Frame) (table : List ℕ) (around : Around) (place : Place) (p : Planes)
    (a : Ready s tokens readers f table around) (b : Laid place p) {x : Outcome} {q : Planes}
    (e : record { answer = x; planes = q } ≡ macroblock_call_of s tokens readers f table around place p) where
  called : record { answer = x; planes = q } ≡ to_macroblock_called p (step_of s tokens readers f table around place p)
  called = e ∙ decode_good s tokens readers f table around place p a b

  -- THE LAW for callers of `decode`
  pub decoded : step_of s tokens readers f table around place p ≡ from_macroblock_called (record { answer = x; planes = q })
  decoded = from_called p (step_of s tokens readers f table around place p) ∙ ap from_macroblock_called (sym called)

-- ---- modes are read before tokens, and from the first partition alone: two calls with the same partition, reader, announcement and
-- modes around, whatever else they have
module _ (s : List ℕ)
    (tokens : List ℕ) (readers : Readers) (f : Frame) (table : List ℕ) (around : Around) (place : Place) (p : Planes)
    (tokens' : List ℕ) (readers' : Readers) (f' : Frame) (table' : List ℕ) (around' : Around) (place' : Place) (p' : Planes)
    (r : readers.first ≡ readers'.first) (n : f.announced ≡ f'.announced)
    (a : around.top.modes ≡ around'.top.modes) (b : around.left.modes ≡ around'.left.modes) where
  same_run : run (modes_of f.announced around.top.modes around.left.modes) s readers.first ≡ run (modes_of f'.announced around'.top.modes around'.left.modes) s readers'.first
  same_run = λ i. run (modes_of (n i) (a i) (b i)) s (r i)

  -- where both are finished, their modes, what these leave and the reader after them are the same
  pub step_modes_only_first : {x x' : Finished} → step_of s tokens readers f table around place p ≡ finished x → step_of s tokens' readers' f' table' around' place' p' ≡ finished x' → SameModes x x'
  step_modes_only_first {x} {x'} e k =
      let c = step_both s tokens readers f table around place p e in
      let d = step_both s tokens' readers' f' table' around' place' p' k in
      let g : given x.modes x.readers.first ≡ given x'.modes x'.readers.first = sym c.modes ∙ same_run ∙ d.modes in
      let m : x.modes ≡ x'.modes = cc in
      record {
        modes = m;
        first = cc;
        bottom = ap (λ (n : Context). n.modes) c.top ∙ ap (λ (n : Macroblock). bottom_of n.modes) m ∙ sym (ap (λ (n : Context). n.modes) d.top);
        side = ap (λ (n : Context). n.modes) c.left ∙ ap (λ (n : Macroblock). right_of n.modes) m ∙ sym (ap (λ (n : Context). n.modes) d.left);
      }
