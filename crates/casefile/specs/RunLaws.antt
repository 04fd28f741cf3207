-- The laws of a run: a plane's sum by the number, and a file by its form.
use Rattle.std.specs.Prelude.{◌≤◌, ◌≡◌, ◌&&◌}
use Rattle.numbers.specs.Words.{ℕ, sym, ◌∙◌, ap, ap₂, true, false, leb, List, length, take, replicate, length-replicate, get_or-take, length-take-le, get_or_constant, constant, ℤ}
use Rattle.tile.specs.declared.Tile.{Tile}
use Rattle.lent.specs.Memory.{Memory, memory_of}
use Rattle.choices.specs.Choices.{call_of}
use Rattle.picture.specs.Picture.{Ended, picture_of}
use Rattle.casefile.specs.declared.run.Ran.{Ran}
use Rattle.casefile.specs.CaseFile.{case_width, case_height, case_header, well_formed_of, case_tile, given_of}
use Rattle.casefile.specs.Measures.{sum_of}
use Rattle.casefile.specs.Run.{lent_of, sum_after_of, report_of, malformed_ran, ran_of}

module _ (number : ℕ) (l : List ℕ) where
  pub sum_refused : leb 1 number && leb number 5 ≡ true → 0 ≡ sum_after_of number l
  unfolding sum_after_of
  sum_refused e = rw (e, sum_after_of)

  pub sum_decoded : leb 1 number && leb number 5 ≡ false → sum_of l ≡ sum_after_of number l
  unfolding sum_after_of
  sum_decoded e = rw (e, sum_after_of)

module _ (s : List ℕ) where
  pub run_malformed : well_formed_of s ≡ false → malformed_ran ≡ ran_of s
  unfolding ran_of
  run_malformed e = rw (e, ran_of)

  pub run_formed : well_formed_of s ≡ true → {w h : ℕ} {x : Ran} → w ≡ case_width s → h ≡ case_height s → x ≡ report_of (picture_of (given_of s) (lent_of w h)) → x ≡ ran_of s
  unfolding ran_of
  run_formed e f g r = r ∙ rw (e, f, g, ran_of)

-- what a file gives to the picture call
pub given_is : (s : List ℕ) (m : Memory) {t : Tile} {e : List ℤ} {x : Ended} → x ≡ picture_of (call_of s t e) m → t ≡ case_tile s → e ≡ case_header s → x ≡ picture_of (given_of s) m
given_is s m p f g = p ∙ ap₂ (λ (t : Tile) (e : List ℤ). picture_of (call_of s t e) m) f g

pub report_is : (s : List ℕ) {m m' : Memory} {x : Ran} → x ≡ report_of (picture_of (given_of s) m) → m ≡ m' → x ≡ report_of (picture_of (given_of s) m')
report_is s e f = e ∙ ap (λ (m : Memory). report_of (picture_of (given_of s) m)) f

-- ---- the lent memory: the start of an array in which every byte is the same
module _ (m x n : ℕ) {l : List ℕ} (e : l ≡ replicate m x) (h : n ≤ m) where
  pub part_long : n ≡ length (take n l)
  part_long = sym (length-take-le n l (rw (e, length-replicate m x) h))

  pub part_is : {k : ℕ} → n ≡ k → take n l ≡ replicate k x
  part_is f =
      rw (e, ← f)
      (constant (take n (replicate m x)) n x (rw (← e) (sym part_long)) (λ i g. get_or-take n (replicate m x) i x g ∙ get_or_constant m i x))

pub memory_is : {y u v columns modes strengths y' u' v' columns' modes' strengths' : List ℕ} → y ≡ y' → u ≡ u' → v ≡ v' → columns ≡ columns' → modes ≡ modes' → strengths ≡ strengths' → memory_of y u v columns modes strengths ≡ memory_of y' u' v' columns' modes' strengths'
memory_is a b c d e f = rw (a, b, c, d, e, f)
