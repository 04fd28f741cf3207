-- The laws of one macroblock: what its inner functions ask, and what its three squares and its two grammars give.
use Rattle.std.specs.Prelude.{◌+◌, ◌*◌, ◌/◌, ◌≤◌, ◌≡◌, ◌||◌}
use Rattle.numbers.specs.Words.{Checked, ℕ, arith, refl, sym, ◌∙◌, ap, Bool, true, false, not, inl, inr, ⊎_elim, lt_or, never, List, length, get_or, take, drop, replicate, get_or-eq_default, length-drop, length-take, drop-drop, get_or-drop, get_or-take, length-take-le, take_all, ℤ, pos, negsuc, Each, of_le, Ok, Err}
use Rattle.reader.specs.declared.boolean.Reader.{Reader}
use Rattle.reader.specs.Reading.{Given, given, missing, run}
use Rattle.header.specs.declared.frame.Frame.{Frame}
use Rattle.header.specs.Frame.{factors_at, level_at}
use Rattle.header.specs.FrameLaws.{Sound}
use Rattle.modes.specs.Modes.{Macroblock, modes_of, bottom_of, right_of, kinds_of, empty_context}
use Rattle.modes.specs.ModesLaws.{InRange}
use Rattle.modes.specs.declared.contexts.Context.{Context}
use Rattle.transform.specs.Lanes.{by_blocks, macroblock_blocks}
use Rattle.transform.specs.LanesLaws.{length_by_blocks, blocks_luma, blocks_chroma}
use Rattle.residual.specs.Residual.{Model, ModelInRange, residual_of}
use Rattle.planes.specs.Paint.{PaintedPlane, paint_of, square_blocks}
use Rattle.planes.specs.PaintLaws.{Proper, paint_good, square_taken}
use Rattle.filter.specs.declared.strengths.Strength.{Strength}
use Rattle.filter.specs.Strengths.{no_strength, strengths_values_of}
use Rattle.filter.specs.StrengthsLaws.{strength_good}
use Rattle.macroblock.specs.declared.ending.Unfinished.TheVariants as F
use Rattle.macroblock.specs.declared.ending.Residue.{Residue}
use Rattle.macroblock.specs.Macroblock.{Place, Readers, Around, Finish, Outcome, Planes, finished, painted_planes, below, beside, end_of, after_tokens, after_modes, token_step, step_of, to_macroblock_called, no_outcome, squares_of, residue_of, end_outcome, macroblock_ended, Laid, Painting, tokens_called}

-- ---- the three squares
-- a part of numbers in range
each_part : (c : List ℤ) (n k : ℕ) → Each (negsuc 32767) (pos 32767) c → Each (negsuc 32767) (pos 32767) (take n (drop k c))
each_part c n k e =
    record {
      at = λ i. ⊎_elim
          (λ l. rw (get_or-take n (drop k c) i (pos 0) l, get_or-drop k c i (pos 0)) (e.at (k + i)))
          (λ g. rw (get_or-eq_default (take n (drop k c)) (pos 0) {n = i} (short i g)) (record { low = of_le (omega arith); high = of_le (omega arith) }))
          (lt_or i n);
    }
  where
    short : (i : ℕ) → n ≤ i → length (take n (drop k c)) ≤ i
    short i g = rw (length-take n (drop k c)) (omega arith)

module _ {place : Place} {p : Planes} {m : Macroblock} {c : List ℤ} (g : Laid place p) (h : Painting m c) where
  abbrev w : ℕ
  w = place.width

  abbrev column : ℕ
  column = place.column

  abbrev row : ℕ
  row = place.row

  pub luma_proper : Proper (length p.y) w g.columns g.rows column row 16 m.small (get_or m.modes 0 0) m.modes (take 256 c)
  luma_proper =
      record {
        size = inr refl;
        width = g.width;
        height = g.luma;
        wide = g.wide;
        high = g.high;
        across = g.across;
        down = g.down;
        luma = λ e. refl;
        large = h.large;
        each = h.small;
        long = rw (length-take 256 c, h.long) refl;
        fit = each_part c 256 0 h.each;
      }

  pub chroma_proper : (q : List ℕ) → length q ≡ g.rows * 8 * (w / 2) → (k : ℕ) → k + 64 ≤ 384 → Proper (length q) (w / 2) g.columns g.rows column row 8 false m.chroma m.modes (take 64 (drop k c))
  chroma_proper q e k l =
      record {
        size = inl refl;
        width = omega (arith, g.width);
        height = e;
        wide = omega (arith, g.wide);
        high = omega (arith, g.high);
        across = g.across;
        down = g.down;
        luma = λ f. absurd (never f refl);
        large = λ f. h.chroma;
        each = λ f. absurd (never f refl);
        long = rw (length-take 64 (drop k c), length-drop k c, h.long) (omega arith);
        fit = each_part c 64 k h.each;
      }

  -- where all is in range, each is painted
  pub squares_good : squares_of place m c p ≡ painted_planes place m c p
  squares_good =
      let plane : PaintedPlane → List ℕ = λ x. x.plane in
      let a = ap plane (paint_good p.y w column row 16 m.small (get_or m.modes 0 0) m.modes (take 256 c) luma_proper) in
      let b = ap plane (paint_good p.u (w / 2) column row 8 false m.chroma m.modes (take 64 (drop 256 c)) (chroma_proper p.u g.blue 256 (omega arith))) in
      let d = ap plane (paint_good p.v (w / 2) column row 8 false m.chroma m.modes (take 64 (drop 320 c)) (chroma_proper p.v g.red 320 (omega arith))) in
      λ i. record { y = a i; u = b i; v = d i }

-- ---- their coefficients, of those by lanes
module _ (l : List ℤ) (long : length l ≡ 384) where
  luma_square : square_blocks 16 0 (take 256 l) ≡ take 256 (macroblock_blocks l)
  luma_square =
      square_taken 16 0 (take 256 l) (inr refl) (length-take-le 256 l (omega (arith, long)))
      ∙ take_all 256 (by_blocks 16 (take 256 l)) (omega (arith, length_by_blocks 16 (take 256 l))) ∙ sym (blocks_luma l)

  chroma_square : (from : ℕ) → square_blocks 8 from (take 128 (drop 256 l)) ≡ take 64 (drop (256 + 16 * from) (macroblock_blocks l))
  chroma_square from =
      let e : length (drop 256 l) ≡ 128 = omega (arith, length-drop 256 l, long) in
      ap (square_blocks 8 from) (take_all 128 (drop 256 l) (omega (arith, e)))
      ∙ square_taken 8 from (drop 256 l) (inl refl) e
      ∙ ap (λ (x : List ℤ). take 64 (drop (16 * from) x)) (sym (blocks_chroma l)) ∙ ap (take 64) (drop-drop (16 * from) 256 (macroblock_blocks l))

  -- what the three calls answer
  plane_is : {a : Checked} {q : List ℕ} {o r : PaintedPlane} → record { answer = a; plane = q } ≡ o → o ≡ r → q ≡ r.plane
  plane_is e f = ap (λ (x : PaintedPlane). x.plane) (e ∙ f)

  module _ (place : Place) (p : Planes) (m : Macroblock) {a b d : Checked} {y u v : List ℕ} where
    pub squares_made : record { answer = a; plane = y } ≡ paint_of p.y place.width place.column place.row 16 m.small (get_or m.modes 0 0) m.modes (square_blocks 16 0 (take 256 l))
        → record { answer = b; plane = u } ≡ paint_of p.u (place.width / 2) place.column place.row 8 false m.chroma m.modes (square_blocks 8 0 (take 128 (drop 256 l)))
        → record { answer = d; plane = v } ≡ paint_of p.v (place.width / 2) place.column place.row 8 false m.chroma m.modes (square_blocks 8 4 (take 128 (drop 256 l)))
        → ◌≡◌ {A = Planes} (record { y = y; u = u; v = v }) (squares_of place m (macroblock_blocks l) p)
    squares_made e f k =
        let n = plane_is e (ap (paint_of p.y place.width place.column place.row 16 m.small (get_or m.modes 0 0) m.modes) luma_square) in
        let o = plane_is f (ap (paint_of p.u (place.width / 2) place.column place.row 8 false m.chroma m.modes) (chroma_square 0)) in
        let q = plane_is k (ap (paint_of p.v (place.width / 2) place.column place.row 8 false m.chroma m.modes) (chroma_square 4)) in
        λ i. record { y = n i; u = o i; v = q i }

-- ---- the answers
pub nothing_is : {a : Finish} {x y : Context} → x ≡ empty_context → y ≡ empty_context
    → ◌≡◌ {A = Outcome} (record { answer = a; kinds = record { segment = 0; skip = false; small = false; chroma = 0 }; modes = replicate 16 0; strength = no_strength; top = x; left = y }) (no_outcome a)
nothing_is e f = rw (e, f)

pub ended_is : (f : Frame) (m : Macroblock) (d : Residue) {r : Reader} {x : Strength} {a b : List ℕ} → x ≡ (end_outcome f m r d).strength → a ≡ bottom_of m.modes → b ≡ right_of m.modes
    → ◌≡◌ {A = Outcome}
    (record { answer = Ok (record { first = r; token = d.after }); kinds = kinds_of m; modes = m.modes; strength = x; top = record { modes = a; flags = d.top }; left = record { modes = b; flags = d.left } })
    (end_outcome f m r d)
ended_is f m d e g h = rw (e, g, h)

-- no level, where there is no such segment
pub level_none : (f : Frame) (small : Bool) {segment : ℕ} → length f.large ≡ 4 → length f.small ≡ 4 → 4 ≤ segment → 0 ≡ level_at f small segment
level_none f true {segment} e g h = sym (get_or-eq_default f.small 0 {n = segment} (omega (arith, g)))
level_none f false {segment} e g h = sym (get_or-eq_default f.large 0 {n = segment} (omega (arith, e)))

-- THE LAW of the end: where all is in range, it is the macroblock
pub complete_good : (f : Frame) (place : Place) (p : Planes) (m : Macroblock) (next : Reader) (d : Model) (after : Reader) → Sound f → Laid place p → Painting m d.coefficients
    → macroblock_ended f place m next (residue_of d after) d.coefficients p ≡ to_macroblock_called p (finished (end_of f place p m next d after))
unfolding end_of
complete_good f place p m next d after s g h =
    let e = ap strengths_values_of (strength_good (level_at f m.small m.segment) f.sharp (m.small || not d.empty) (s.levels m.small m.segment)) in
    let k = squares_good g h in
    λ i. record {
      answer = record { answer = Ok (record { first = next; token = after }); kinds = kinds_of m; modes = m.modes; strength = e i; top = below m d.top; left = beside m d.left };
      planes = k i;
    }

-- ---- from where the modes are read
module _ (tokens : List ℕ) (t : Reader) (f : Frame) (table : List ℕ) (around : Around) (place : Place) (m : Macroblock) (next : Reader) (p : Planes) where
  abbrev given_tokens : Given Model
  given_tokens = run (residual_of table (factors_at f m.segment) m.small m.skip around.top.flags around.left.flags) tokens t

  pub tokens_missing : given_tokens ≡ missing → {x : Outcome} → x ≡ no_outcome (Err F.NoTokens) → record { answer = x; planes = p } ≡ tokens_called tokens t f table around place m next p
  unfolding tokens_called
  tokens_missing e g = rw g (sym (ap (λ (x : Given Model). to_macroblock_called p (after_tokens (end_of f place p m next) x)) e))

  pub tokens_done : {d : Model} {q : Reader} → given_tokens ≡ given d q → to_macroblock_called p (finished (end_of f place p m next d q)) ≡ tokens_called tokens t f table around place m next p
  unfolding tokens_called
  tokens_done e = sym (ap (λ (x : Given Model). to_macroblock_called p (after_tokens (end_of f place p m next) x)) e)

-- modes and coefficients that were read can be painted
pub painting : {m : Macroblock} {d : Model} → InRange m → ModelInRange d → Painting m d.coefficients
painting i d =
    record {
      chroma = i.chroma;
      large = λ e. (i.luma.large e).1;
      small = λ e k h. i.luma.each k;
      long = d.long;
      each = d.each;
    }

-- ---- the whole
module _ (first tokens : List ℕ) (readers : Readers) (f : Frame) (table : List ℕ) (around : Around) (place : Place) (p : Planes) where
  abbrev given_modes : Given Macroblock
  given_modes = run (modes_of f.announced around.top.modes around.left.modes) first readers.first

  pub whole_missing : given_modes ≡ missing → {x : Outcome} → x ≡ no_outcome (Err F.NoModes)
      → record { answer = x; planes = p } ≡ to_macroblock_called p (step_of first tokens readers f table around place p)
  unfolding step_of
  whole_missing e g = rw g (sym (ap (λ (x : Given Macroblock). to_macroblock_called p (after_modes (token_step tokens readers.token f table around place p) x)) e))

  pub whole_tokens : {m : Macroblock} {q : Reader} → given_modes ≡ given m q
      → tokens_called tokens readers.token f table around place m q p ≡ to_macroblock_called p (step_of first tokens readers f table around place p)
  unfolding step_of tokens_called
  whole_tokens e = sym (ap (λ (x : Given Macroblock). to_macroblock_called p (after_modes (token_step tokens readers.token f table around place p) x)) e)
