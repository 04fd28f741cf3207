-- The laws of a macroblock that is rebuilt from its modes: what its call asks, which way it goes, what it leaves and what it does not touch.
use Rattle.std.specs.Prelude.{◌≡◌, ◌&&◌, ◌||◌}
use Rattle.numbers.specs.Words.{ℕ, arith, refl, sym, ◌∙◌, ap, subst, Bool, true, false, not, both_true, both_false, List, length, replicate, length-replicate, get_or_constant, ℤ, pos, Err}
use Rattle.reader.specs.declared.boolean.Reader.{Reader}
use Rattle.reader.specs.Reading.{Given, given, missing, run}
use Rattle.reader.specs.ReadingLaws.{Bytes, Valid, ReadTo, run_valid}
use Rattle.header.specs.declared.frame.Frame.{Frame}
use Rattle.header.specs.Frame.{level_at}
use Rattle.header.specs.FrameLaws.{Sound}
use Rattle.filter.specs.Strengths.{strength_fine_of}
use Rattle.filter.specs.StrengthsLaws.{strength_fine_lem}
use Rattle.modes.specs.Modes.{Macroblock, modes_of}
use Rattle.modes.specs.ModesLaws.{InRange, modes_within}
use Rattle.transform.specs.Lanes.{macroblock_blocks}
use Rattle.transform.specs.LanesLaws.{blocks_of_squares, squares_zeros}
use Rattle.residual.specs.Residual.{ModelInRange, Flags}
use Rattle.residual.specs.ResidualLaws.{initial_whole}
use Rattle.macroblock.specs.declared.ending.Unfinished.TheVariants as F
use Rattle.macroblock.specs.Macroblock.{Place, Readers, Around, Outcome, Planes, Finished, Step, finished, no_modes, no_tokens, to_macroblock_called, strength_made, end_of, after_modes, no_outcome, place_fine, residue_of, macroblock_ended, Laid, Legible}
use Rattle.macroblock.specs.MacroblockLaws.{painting, complete_good}
use Rattle.macroblock.specs.DecodeLaws.{legible_test, laid_test}
use Rattle.macroblock.specs.StepLaws.{Ends, Elsewhere, finished_is, apart, end_ends, end_outside}
use Rattle.macroblock.specs.Rebuilt.{no_residual_of, rebuilt_of, legible_of, rebuild_call_of}

-- ---- no residual
no_flags : Flags (replicate 9 0)
no_flags = record { long = refl; each = λ i. rw (get_or_constant {A = ℕ} 9 i 0) (omega arith) }

pub no_residual_lem : ModelInRange no_residual_of
no_residual_lem = initial_whole no_flags no_flags

-- by lanes it is zeros too
pub no_lanes : macroblock_blocks (replicate 384 (pos 0)) ≡ replicate 384 (pos 0)
no_lanes = ap macroblock_blocks (squares_zeros {l = replicate 384 (pos 0)} {c = replicate 384 (pos 0)} refl refl) ∙ blocks_of_squares (replicate 384 (pos 0)) (length-replicate 384 (pos 0))

-- ---- as the code makes it: of coefficients that are zeros by lanes
pub bare_done : (f : Frame) (place : Place) (p : Planes) (m : Macroblock) (next token : Reader) → Sound f → Laid place p → InRange m
    → macroblock_ended f place m next (residue_of no_residual_of token) (macroblock_blocks (replicate 384 (pos 0))) p ≡ to_macroblock_called p (finished (end_of f place p m next no_residual_of token))
bare_done f place p m next token s g h =
    ap (λ (c : List ℤ). macroblock_ended f place m next (residue_of no_residual_of token) c p) no_lanes ∙ complete_good f place p m next no_residual_of token s g (painting h no_residual_lem)

module _ (first : List ℕ) (readers : Readers) (f : Frame) (around : Around) (place : Place) (p : Planes) where
  -- what the grammar of the modes gives
  abbrev modes_run : Given Macroblock
  modes_run = run (modes_of f.announced around.top.modes around.left.modes) first readers.first

  abbrev call : Step
  call = rebuilt_of first readers f around place p

  abbrev end : Macroblock → Reader → Finished
  end m next = end_of f place p m next no_residual_of readers.token

  -- ---- the two ways
  pub rebuilt_no_modes : modes_run ≡ missing → call ≡ no_modes
  unfolding rebuilt_of
  rebuilt_no_modes e = ap (after_modes (λ m next. finished (end m next))) e

  pub rebuilt_done : {m : Macroblock} {q : Reader} → modes_run ≡ given m q → call ≡ finished (end m q)
  unfolding rebuilt_of
  rebuilt_done e = ap (after_modes (λ m next. finished (end m next))) e

  pub bare_missing : modes_run ≡ missing → {x : Outcome} → x ≡ no_outcome (Err F.NoModes) → record { answer = x; planes = p } ≡ to_macroblock_called p call
  bare_missing e g = rw (g, rebuilt_no_modes e)

  pub bare_given : {m : Macroblock} {q : Reader} → modes_run ≡ given m q → to_macroblock_called p (finished (end m q)) ≡ to_macroblock_called p call
  bare_given e = rw (rebuilt_done e)

  -- there is no other
  by_way : (P : Step → Type 0) → (modes_run ≡ missing → P no_modes) → ((m : Macroblock) (q : Reader) → modes_run ≡ given m q → P (finished (end m q))) → P call
  by_way P a b = go modes_run refl
    where
      go : (g : Given Macroblock) → modes_run ≡ g → P call
      go (given m q) e = subst P (sym (rebuilt_done e)) (b m q e)
      go missing e = subst P (sym (rebuilt_no_modes e)) (a e)

  -- it never asks for a token
  pub rebuilt_never : call ≡ no_tokens → ⊥
  rebuilt_never = by_way (λ (g : Step). g ≡ no_tokens → ⊥) (λ e k. apart k (omega arith)) (λ m q e k. apart k (omega arith))

  pub rebuilt_refused : call ≡ no_modes → modes_run ≡ missing
  rebuilt_refused = by_way (λ (g : Step). g ≡ no_modes → modes_run ≡ missing) (λ e k. e) (λ m q e k. absurd (apart k (omega arith)))

  -- its modes were given
  pub record From (x : Finished) : Type 0 where
    pub modes : modes_run ≡ given x.modes x.readers.first
    pub token : x.readers.token ≡ readers.token
    pub strengths : x.strength ≡ strength_made f x.modes true
    pub is : x ≡ end x.modes x.readers.first

  pub rebuilt_from : {x : Finished} → call ≡ finished x → From x
  unfolding end_of
  rebuilt_from {x} =
      by_way (λ (g : Step). g ≡ finished x → From x) (λ e k. absurd (apart k (omega arith)))
      (λ m q e k. subst From (finished_is k) (record { modes = e; token = refl; strengths = refl; is = refl }))

  -- ---- a macroblock that is rebuilt
  module _ (a : Legible first readers.first f around) (y : Bytes first) {x : Finished} (e : call ≡ finished x) where
    abbrev from : From x
    from = rebuilt_from e

    read : ReadTo InRange first readers.first x.modes x.readers.first
    read = run_valid (modes_within f.announced a.sound.announced around.top.modes around.left.modes) y a.reader from.modes

    -- no token is read: the reader of any token partition that it was valid in stays
    kept : (tokens : List ℕ) → Valid tokens readers.token → ReadTo ModelInRange tokens readers.token no_residual_of readers.token
    kept tokens v = record { value = no_residual_lem; valid = v; later = omega arith }

    -- THE LAW of what it leaves
    pub rebuilt_ends : (tokens : List ℕ) → Valid tokens readers.token → Ends first tokens readers x
    rebuilt_ends tokens v = subst (Ends first tokens readers) (sym from.is) (end_ends f place p x.modes no_residual_of a.sound read (kept tokens v))

    -- what it does to the planes
    pub rebuilt_outside : (tokens : List ℕ) → Valid tokens readers.token → Laid place p → Elsewhere place p x.planes
    rebuilt_outside tokens v g = subst (λ (n : Finished). Elsewhere place p n.planes) (sym from.is) (end_outside f place p x.modes no_residual_of {tokens = tokens} {readers = readers} g read (kept tokens v))

    pub rebuilt_strength : strength_fine_of x.strength ≡ true
    rebuilt_strength =
        ap strength_fine_of from.strengths
        ∙ strength_fine_lem (level_at f x.modes.small x.modes.segment) f.sharp (x.modes.small || not true) (a.sound.levels x.modes.small x.modes.segment)

  -- ---- the call
  abbrev fine : Bool
  fine = place_fine (length p.y) (length p.u) (length p.v) place

  abbrev able : Bool
  able = legible_of first readers.first f around

  pub rebuild_passed : able ≡ true → fine ≡ true → to_macroblock_called p call ≡ rebuild_call_of first readers f around place p
  unfolding rebuild_call_of
  rebuild_passed a b = rw (both_true a b, rebuild_call_of)

  refused : able && fine ≡ false → {x : Outcome} → x ≡ no_outcome (Err F.Refused) → record { answer = x; planes = p } ≡ rebuild_call_of first readers f around place p
  unfolding rebuild_call_of
  refused e g = rw (g, e, rebuild_call_of)

  pub rebuild_illegible : able ≡ false → {x : Outcome} → x ≡ no_outcome (Err F.Refused) → record { answer = x; planes = p } ≡ rebuild_call_of first readers f around place p
  rebuild_illegible e = refused (rw e)

  pub rebuild_unlaid : fine ≡ false → {x : Outcome} → x ≡ no_outcome (Err F.Refused) → record { answer = x; planes = p } ≡ rebuild_call_of first readers f around place p
  rebuild_unlaid e = refused (both_false able e)

  -- THE LAW for callers: with good arguments it is the macroblock
  pub rebuild_good : Legible first readers.first f around → Laid place p → rebuild_call_of first readers f around place p ≡ to_macroblock_called p call
  rebuild_good a b = sym (rebuild_passed (legible_test first readers.first f around a) (laid_test place p b))

-- ---- the token partition's reader decides nothing: with another one, all but that reader is the same
abbrev pub with_token : Finished → Reader → Finished
with_token x t = record { modes = x.modes; strength = x.strength; top = x.top; left = x.left; readers = record { first = x.readers.first; token = t }; planes = x.planes }

module _ (first : List ℕ) (readers other : Readers) (f : Frame) (around : Around) (place : Place) (p : Planes) (r : readers.first ≡ other.first) where
  same_run : modes_run first other f around place p ≡ modes_run first readers f around place p
  same_run = λ i. run (modes_of f.announced around.top.modes around.left.modes) first (sym r i)

  other_end : (m : Macroblock) (q : Reader) → end first other f around place p m q ≡ with_token (end first readers f around place p m q) other.token
  unfolding end_of
  other_end m q = refl

  pub rebuilt_token : {x : Finished} → rebuilt_of first readers f around place p ≡ finished x → rebuilt_of first other f around place p ≡ finished (with_token x other.token)
  rebuilt_token {x} e =
      let a = rebuilt_from first readers f around place p e in
      rebuilt_done first other f around place p (same_run ∙ a.modes)
      ∙ ap finished (other_end x.modes x.readers.first ∙ ap (λ (y : Finished). with_token y other.token) (sym a.is))

  pub rebuilt_token_none : rebuilt_of first readers f around place p ≡ no_modes → rebuilt_of first other f around place p ≡ no_modes
  rebuilt_token_none e = rebuilt_no_modes first other f around place p (same_run ∙ rebuilt_refused first readers f around place p e)
