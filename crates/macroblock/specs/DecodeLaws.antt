-- The laws of the public call: what its checks say, that good arguments give the macroblock, and that a refusal changes nothing.
use Rattle.std.specs.Prelude.{◌*◌, ◌/◌, ◌%◌, ◌≤◌, ◌<◌, ◌≡◌, ◌&&◌}
use Rattle.numbers.specs.Words.{ℕ, zero, suc, mul-div_cancel, arith, refl, sym, ◌∙◌, ap, subst, Bool, true, false, eqb, ltb, leb, both_left, both_right, both_true, both_false, eq-eqb, eqb-true, le-leb, le-ltb, leb-true, lt-leb, lt-ltb, ltb-true, List, length, get_or, get_or-eq_default, w8, Fits, Err}
use Rattle.header.specs.Header.{probability_count}
use Rattle.reader.specs.declared.boolean.Reader.{Reader}
use Rattle.reader.specs.Reading.{valid_of}
use Rattle.reader.specs.ReadingLaws.{valid_test, valid_fact}
use Rattle.modes.specs.Modes.{each_below_of, context_fine_of}
use Rattle.modes.specs.ModesLaws.{each_fact, each_all}
use Rattle.modes.specs.declared.contexts.Context.{Context}
use Rattle.modes.specs.ContextsLaws.{contexts_fine_lem}
use Rattle.residual.specs.Residual.{Flags}
use Rattle.macroblock.specs.declared.ending.Unfinished.TheVariants as F
use Rattle.header.specs.declared.frame.Frame.{Frame}
use Rattle.header.specs.Frame.{level_at}
use Rattle.macroblock.specs.Macroblock.{Place, Readers, Around, Outcome, Planes, Step, finished, no_modes, no_tokens, MacroblockCalled, to_macroblock_called, levels_fine_of, ready_of, place_fine, step_of, macroblock_call_of, no_outcome, finish_number_of, Laid, Ready, Legible, FrameSizes, AroundSizes}
use Rattle.macroblock.specs.Rebuilt.{legible_of}

-- ---- levels
pub levels_fact : (l : List ℕ) → length l ≡ 4 → levels_fine_of l ≡ true → (i : ℕ) → get_or l i 0 ≤ 63
levels_fact l n e = go
  where
    at : ℕ → Bool
    at i = leb (get_or l i 0) 63

    two : at 0 && at 1 ≡ true
    two = both_left (at 0 && at 1) (at 2 && at 3) e

    more : at 2 && at 3 ≡ true
    more = both_right (at 0 && at 1) (at 2 && at 3) e

    go : (i : ℕ) → get_or l i 0 ≤ 63
    go zero = leb-true _ _ (both_left (at 0) (at 1) two)
    go (suc zero) = leb-true _ _ (both_right (at 0) (at 1) two)
    go (suc (suc zero)) = leb-true _ _ (both_left (at 2) (at 3) more)
    go (suc (suc (suc zero))) = leb-true _ _ (both_right (at 2) (at 3) more)
    go (suc (suc (suc (suc i)))) = rw (get_or-eq_default l 0 {n = suc (suc (suc (suc i)))} (omega arith)) (omega arith)

pub levels_test : (l : List ℕ) → ((i : ℕ) → get_or l i 0 ≤ 63) → levels_fine_of l ≡ true
levels_test l h = both_true (both_true (le-leb _ _ (h 0)) (le-leb _ _ (h 1))) (both_true (le-leb _ _ (h 2)) (le-leb _ _ (h 3)))

pub levels_of_lem : (f : Frame) → ((i : ℕ) → get_or f.large i 0 ≤ 63) → ((i : ℕ) → get_or f.small i 0 ≤ 63) → (small : Bool) (i : ℕ) → level_at f small i ≤ 63
levels_of_lem f a b true i = b i
levels_of_lem f a b false i = a i

-- ---- contexts
pub flags_of : (c : Context) → length c.flags ≡ 9 → context_fine_of c ≡ true → Flags c.flags
flags_of c n e = record { long = n; each = λ i. let h : get_or c.flags i 0 < 2 = each_fact 2 c.flags (omega arith) (both_right (each_below_of 10 c.modes) _ e) i in omega arith }

pub context_test : (c : Context) → each_below_of 10 c.modes ≡ true → Flags c.flags → context_fine_of c ≡ true
context_test c e f = both_true e (each_all 2 c.flags (λ i h. omega (arith, f.each i)))

-- ---- what is read
-- what the type of a frame says
pub frame_sized : (f : Frame) → length f.large ≡ 4 → length f.small ≡ 4 → ((i : ℕ) → Fits w8 (get_or f.announced.map_probabilities i 0)) → Fits w8 f.announced.skip_probability → FrameSizes f
frame_sized f e g h k = record { large = e; small = g; probabilities = record { map = λ i. (h i).fits; skip = k.fits } }

-- whoever could decode it can rebuild it
pub ready_legible : {first tokens : List ℕ} {readers : Readers} {f : Frame} {table : List ℕ} {around : Around} → Ready first tokens readers f table around → Legible first readers.first f around
ready_legible g = record { reader = g.reader; contexts = g.contexts; top = g.top; left = g.left; sound = g.sound }

module _ (first : List ℕ) (r : Reader) (f : Frame) (around : Around) where
  pub legible_out : FrameSizes f → AroundSizes around → legible_of first r f around ≡ true → Legible first r f around
  unfolding legible_of
  legible_out y z e =
      let top = around.top in
      let left = around.left in
      let rest = both_right (valid_of first r) _ e in
      let contexts = both_left (context_fine_of top && context_fine_of left) _ rest in
      let levels = both_right (context_fine_of top && context_fine_of left) _ rest in
      let a = both_left (context_fine_of top) _ contexts in
      let b = both_right (context_fine_of top) _ contexts in
      record {
        reader = valid_fact first r (both_left _ _ e);
        contexts = contexts_fine_lem top left a b;
        top = flags_of top z.top a;
        left = flags_of left z.left b;
        sound =
            record {
              levels = levels_of_lem f (levels_fact f.large y.large (both_left _ _ levels)) (levels_fact f.small y.small (both_right (levels_fine_of f.large) _ levels));
              announced = y.probabilities;
            };
      }

  pub legible_test : Legible first r f around → legible_of first r f around ≡ true
  unfolding legible_of
  legible_test g =
      both_true (valid_test first r g.reader)
      (both_true
      (both_true
      (context_test around.top (both_left _ _ g.contexts) g.top)
      (context_test around.left (both_right (each_below_of 10 around.top.modes) _ g.contexts) g.left))
      (both_true (levels_test f.large (g.sound.levels false)) (levels_test f.small (g.sound.levels true))))

module _ (first tokens : List ℕ) (readers : Readers) (f : Frame) (table : List ℕ) (around : Around) where
  pub ready_out : FrameSizes f → AroundSizes around → ready_of first tokens readers f (length table) around ≡ true → Ready first tokens readers f table around
  unfolding ready_of legible_of
  ready_out y z e =
      let r = readers.first in
      let t = readers.token in
      let two = both_left (valid_of first r && valid_of tokens t) _ e in
      let rest = both_right (valid_of first r && valid_of tokens t) _ e in
      let l = legible_out first r f around y z (both_true {a = valid_of first r} (both_left (valid_of first r) _ two) (both_right (eqb (length table) probability_count) _ rest)) in
      record {
        reader = l.reader;
        token = valid_fact tokens t (both_right (valid_of first r) _ two);
        size = eqb-true _ _ (both_left _ _ rest);
        contexts = l.contexts;
        top = l.top;
        left = l.left;
        sound = l.sound;
      }

  pub ready_test : Ready first tokens readers f table around → ready_of first tokens readers f (length table) around ≡ true
  unfolding ready_of legible_of
  ready_test g =
      both_true (both_true (valid_test first readers.first g.reader) (valid_test tokens readers.token g.token))
      (both_true (eq-eqb _ _ g.size) (both_right (valid_of first readers.first) _ (legible_test first readers.first f around (ready_legible g))))

-- ---- where it is painted
-- as the code finds it
module _ (y u v : ℕ) (place : Place) where
  abbrev w : ℕ
  w = place.width

  abbrev column : ℕ
  column = place.column

  abbrev row : ℕ
  row = place.row

  pub laid_column : w / 16 ≤ column → false ≡ place_fine y u v place
  unfolding place_fine
  laid_column h = rw (le-ltb column (w / 16) h)

  pub laid_wide : 16384 < w → false ≡ place_fine y u v place
  unfolding place_fine
  laid_wide h = sym (both_false (ltb column (w / 16)) (rw (lt-leb w 16384 h)))

  pub laid_high : 1024 < y / w / 16 → false ≡ place_fine y u v place
  unfolding place_fine
  laid_high h = sym (both_false (ltb column (w / 16)) (rw (both_false (leb w 16384) (lt-leb (y / w / 16) 1024 h))))

  pub laid_rest : column < w / 16 → w ≤ 16384 → y / w / 16 ≤ 1024 → {luma chroma : ℕ} → luma ≡ y / w / 16 * 16 * w → chroma ≡ y / w / 16 * 8 * (w / 2)
      → (eqb (w % 16) 0 && ltb row (y / w / 16)) && (eqb y luma && (eqb u chroma && eqb v chroma)) ≡ place_fine y u v place
  unfolding place_fine
  laid_rest a b c e f = rw (lt-ltb column (w / 16) a, le-leb w 16384 b, le-leb (y / w / 16) 1024 c, e, f)

-- and what it says
module _ (place : Place) (p : Planes) where
  pub laid_out_lem : place_fine (length p.y) (length p.u) (length p.v) place ≡ true → Laid place p
  unfolding place_fine
  laid_out_lem e =
      let w = place.width in
      let column = place.column in
      let row = place.row in
      let rows = length p.y / w / 16 in
      let chroma = rows * 8 * (w / 2) in
      let e1 = both_right (ltb column (w / 16)) _ e in
      let small = both_left (leb w 16384 && leb rows 1024) _ e1 in
      let e2 = both_right (leb w 16384 && leb rows 1024) _ e1 in
      let inside = both_left (eqb (w % 16) 0 && ltb row rows) _ e2 in
      let lengths = both_right (eqb (w % 16) 0 && ltb row rows) _ e2 in
      let two = both_right (eqb (length p.y) (rows * 16 * w)) _ lengths in
      let a : w ≤ 16384 = leb-true _ _ (both_left _ _ small) in
      let b : rows ≤ 1024 = leb-true _ _ (both_right (leb w 16384) _ small) in
      let c : w % 16 ≡ 0 = eqb-true _ _ (both_left _ _ inside) in
      record {
        columns = w / 16;
        rows = rows;
        width = omega arith;
        wide = a;
        high = omega arith;
        across = ltb-true _ _ (both_left _ _ e);
        down = ltb-true _ _ (both_right (eqb (w % 16) 0) _ inside);
        luma = eqb-true _ _ (both_left _ _ lengths);
        blue = eqb-true _ _ (both_left _ _ two);
        red = eqb-true _ _ (both_right (eqb (length p.u) chroma) _ two);
      }

  pub laid_test : Laid place p → place_fine (length p.y) (length p.u) (length p.v) place ≡ true
  unfolding place_fine
  laid_test g =
      let w = place.width in
      let column = place.column in
      let some : 0 < w = omega (arith, g.across, g.width) in
      let tall : length p.y / w ≡ g.rows * 16 = ap (λ (k : ℕ). k / w) g.luma ∙ mul-div_cancel (g.rows * 16) some in
      let e : length p.y / w / 16 ≡ g.rows = omega (arith, tall) in
      rw e
      (both_true (lt-ltb column (w / 16) (omega (arith, g.across, g.width)))
      (both_true (both_true (le-leb _ _ g.wide) (le-leb g.rows 1024 (omega (arith, g.high))))
      (both_true (both_true (eq-eqb (w % 16) 0 (omega (arith, g.width))) (lt-ltb _ _ g.down))
      (both_true (eq-eqb _ _ g.luma) (both_true (eq-eqb _ _ g.blue) (eq-eqb _ _ g.red))))))

-- ---- an answer that finishes nothing
abbrev pub NotFinished : MacroblockCalled → Type 0
NotFinished c = finish_number_of c.answer.answer ≡ 0 → ⊥

abbrev pub Untouched : Planes → MacroblockCalled → Type 0
Untouched p c = c ≡ record { answer = no_outcome c.answer.answer; planes = p }

step_kept : (p : Planes) (g : Step) → NotFinished (to_macroblock_called p g) → Untouched p (to_macroblock_called p g)
step_kept p (finished x) n = absurd (n refl)
step_kept p no_modes n = refl
step_kept p no_tokens n = refl

-- ---- the call
module _ (first tokens : List ℕ) (readers : Readers) (f : Frame) (table : List ℕ) (around : Around) (place : Place) (p : Planes) where
  abbrev fine : Bool
  fine = place_fine (length p.y) (length p.u) (length p.v) place

  abbrev able : Bool
  able = ready_of first tokens readers f (length table) around

  abbrev whole : MacroblockCalled
  whole = to_macroblock_called p (step_of first tokens readers f table around place p)

  abbrev call : MacroblockCalled
  call = macroblock_call_of first tokens readers f table around place p

  pub decode_passed : able ≡ true → fine ≡ true → whole ≡ call
  unfolding macroblock_call_of
  decode_passed a b = rw (both_true a b, macroblock_call_of)

  refused : able && fine ≡ false → {x : Outcome} → x ≡ no_outcome (Err F.Refused) → record { answer = x; planes = p } ≡ call
  unfolding macroblock_call_of
  refused e g = rw (g, e, macroblock_call_of)

  pub decode_unready : able ≡ false → {x : Outcome} → x ≡ no_outcome (Err F.Refused) → record { answer = x; planes = p } ≡ call
  decode_unready e = refused (rw e)

  pub decode_unlaid : fine ≡ false → {x : Outcome} → x ≡ no_outcome (Err F.Refused) → record { answer = x; planes = p } ≡ call
  decode_unlaid e = refused (both_false able e)

  -- THE LAW for callers: with good arguments it is the macroblock
  pub decode_good : Ready first tokens readers f table around → Laid place p → call ≡ whole
  decode_good a b = sym (decode_passed (ready_test first tokens readers f table around a) (laid_test place p b))

  -- refused: the zero answer, and the planes as they were
  pub decode_refused : able && fine ≡ false → call ≡ record { answer = no_outcome (Err F.Refused); planes = p }
  decode_refused e = sym (refused e refl)

  -- whatever is not finished changes nothing: the answer is its number and zeros, and the planes are as they were
  pub decode_kept : NotFinished call → Untouched p call
  decode_kept n = go (able && fine) refl
    where
      go : (b : Bool) → able && fine ≡ b → Untouched p call
      go true e =
          let k = decode_passed (both_left able fine e) (both_right able fine e) in
          subst (Untouched p) k (step_kept p (step_of first tokens readers f table around place p) (subst NotFinished (sym k) n))
      go false e = subst (Untouched p) (sym (decode_refused e)) refl
