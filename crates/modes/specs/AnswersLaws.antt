-- The laws of the calls' answers: what a refusal is, that good arguments give the grammar's run, and what an answer says of it.
use Rattle.std.specs.Prelude.{◌≤◌, ◌<◌, ◌≡◌, ◌&&◌}
use Rattle.numbers.specs.Words.{ℕ, sym, ◌∙◌, ap, Bool, true, false, eqb, ltb, both_true, both_false, eq-eqb, le-ltb, lt-ltb, ne_eqb, List, length, ℤ, Result, Ok, Err}
use Rattle.header.specs.Header.{entry_count}
use Rattle.header.specs.declared.frame.Announced.{Announced}
use Rattle.header.specs.Frame.{announced_of}
use Rattle.header.specs.FrameLaws.{Probabilities}
use Rattle.reader.specs.declared.boolean.Reader.{Reader}
use Rattle.reader.specs.declared.boolean.Unread.{Unread}
use Rattle.reader.specs.declared.boolean.Unread.TheVariants as U
use Rattle.reader.specs.Reading.{Given, given, missing, ReadOf, to_read, valid_of, run}
use Rattle.reader.specs.ReadingLaws.{Bytes, Valid, valid_test, from_read, from_read_lem, unread_missing, ReadTo, run_valid}
use Rattle.modes.specs.Modes.{prefix, large_mode_of, block_mode_of, small_modes_of, Macroblock, modes_of, Kinds, Sixteen, Staged, to_sixteen, macroblock_of, to_staged, contexts_of, prefix_answer, main_answer, block_answer, small_answer, modes_answer}
use Rattle.modes.specs.ModesLaws.{InRange, modes_within}

-- ---- what an answer says of the grammar. A refusal cannot happen from good arguments, so it may be sent anywhere: callers then
-- treat every answer but the one they take apart alike.
abbrev pub next_given : Result Reader Unread → List ℕ → Given (List ℕ)
next_given (Ok r) l = given l r
next_given (Err u) l = missing

abbrev pub from_sixteen : Sixteen → Given (List ℕ)
from_sixteen x = next_given x.answer x.modes

abbrev pub stage_given : ReadOf Kinds → List ℕ → Given Macroblock
stage_given (Ok x) l = given (macroblock_of x.0 l) x.1
stage_given (Err u) l = missing

abbrev pub from_staged : Staged → Given Macroblock
from_staged x = stage_given x.answer x.modes

pub moded : {A : Type 0} (g : Given A) {x : ReadOf A} → x ≡ to_read g → g ≡ from_read x
moded g e = from_read_lem g ∙ ap from_read (sym e)

pub sixteened : (old : List ℕ) (g : Given (List ℕ)) {x : Sixteen} → x ≡ to_sixteen old g → g ≡ from_sixteen x
sixteened old (given l r) e = ap from_sixteen (sym e)
sixteened old missing e = ap from_sixteen (sym e)

pub staged : (old : List ℕ) (g : Given Macroblock) {x : Staged} → x ≡ to_staged old g → g ≡ from_staged x
staged old (given m r) e = ap from_staged (sym e)
staged old missing e = ap from_staged (sym e)

-- ---- `prefix`
module _ (s : List ℕ) (r : Reader) (h : List ℤ) where
  pub prefix_good : Valid s r → length h ≡ entry_count → prefix_answer s r h ≡ to_read (run (prefix (announced_of h)) s r)
  unfolding prefix_answer
  prefix_good v e = rw (both_true (eq-eqb (length h) entry_count e) (valid_test s r v), prefix_answer)

  refused : eqb (length h) entry_count && valid_of s r ≡ false → Err U.Refused ≡ prefix_answer s r h
  unfolding prefix_answer
  refused e = rw (e, prefix_answer)

  pub prefix_length : (length h ≡ entry_count → ⊥) → Err U.Refused ≡ prefix_answer s r h
  prefix_length e = refused (rw (ne_eqb (length h) entry_count e))

  pub prefix_reader : valid_of s r ≡ false → Err U.Refused ≡ prefix_answer s r h
  prefix_reader e = refused (both_false (eqb (length h) entry_count) e)

-- ---- `main_mode`
module _ (s : List ℕ) (r : Reader) (chroma : Bool) where
  pub main_good : Valid s r → main_answer s r chroma ≡ to_read (run (large_mode_of chroma) s r)
  unfolding main_answer
  main_good v = rw (valid_test s r v, main_answer)

  pub main_reader : valid_of s r ≡ false → Err U.Refused ≡ main_answer s r chroma
  unfolding main_answer
  main_reader e = rw (e, main_answer)

-- ---- `block_mode`
module _ (s : List ℕ) (r : Reader) (above left : ℕ) where
  pub block_good : Valid s r → above < 10 → left < 10 → block_answer s r above left ≡ to_read (run (block_mode_of above left) s r)
  unfolding block_answer
  block_good v a l = rw (both_true (valid_test s r v) (both_true (lt-ltb above 10 a) (lt-ltb left 10 l)), block_answer)

  refused_block_lem : valid_of s r && (ltb above 10 && ltb left 10) ≡ false → Err U.Refused ≡ block_answer s r above left
  unfolding block_answer
  refused_block_lem e = rw (e, block_answer)

  pub block_reader : valid_of s r ≡ false → Err U.Refused ≡ block_answer s r above left
  block_reader e = refused_block_lem (rw e)

  pub block_above : 10 ≤ above → Err U.Refused ≡ block_answer s r above left
  block_above h = refused_block_lem (both_false (valid_of s r) (rw (le-ltb above 10 h)))

  pub block_left : 10 ≤ left → Err U.Refused ≡ block_answer s r above left
  block_left h = refused_block_lem (both_false (valid_of s r) (both_false (ltb above 10) (le-ltb left 10 h)))

-- ---- `small_modes`
module _ (s : List ℕ) (r : Reader) (above left old : List ℕ) where
  pub small_good : Valid s r → contexts_of above left ≡ true → small_answer s r above left old ≡ to_sixteen old (run (small_modes_of above left) s r)
  unfolding small_answer
  small_good v e = rw (both_true (valid_test s r v) e, small_answer)

  refused_small : valid_of s r && contexts_of above left ≡ false → record { answer = Err U.Refused; modes = old } ≡ small_answer s r above left old
  unfolding small_answer
  refused_small e = rw (e, small_answer)

  pub small_reader : valid_of s r ≡ false → record { answer = Err U.Refused; modes = old } ≡ small_answer s r above left old
  small_reader e = refused_small (rw e)

  pub small_contexts : contexts_of above left ≡ false → record { answer = Err U.Refused; modes = old } ≡ small_answer s r above left old
  small_contexts e = refused_small (both_false (valid_of s r) e)

-- ---- `read_modes`
module _ (s : List ℕ) (a : Announced) (r : Reader) (above left old : List ℕ) where
  pub modes_good : Valid s r → contexts_of above left ≡ true → modes_answer s a r above left old ≡ to_staged old (run (modes_of a above left) s r)
  unfolding modes_answer
  modes_good v e = rw (both_true (valid_test s r v) e, modes_answer)

  refused_modes : valid_of s r && contexts_of above left ≡ false → record { answer = Err U.Refused; modes = old } ≡ modes_answer s a r above left old
  unfolding modes_answer
  refused_modes e = rw (e, modes_answer)

  pub modes_reader : valid_of s r ≡ false → record { answer = Err U.Refused; modes = old } ≡ modes_answer s a r above left old
  modes_reader e = refused_modes (rw e)

  pub modes_contexts : contexts_of above left ≡ false → record { answer = Err U.Refused; modes = old } ≡ modes_answer s a r above left old
  modes_contexts e = refused_modes (both_false (valid_of s r) e)

  -- THE LAW for callers of `read_modes`
  pub read : Valid s r → contexts_of above left ≡ true → {x : Staged} → x ≡ modes_answer s a r above left old → run (modes_of a above left) s r ≡ from_staged x
  read v e f = staged old (run (modes_of a above left) s r) (f ∙ modes_good v e)

  -- and where it has read them: every value is in range, and so is the reader, no earlier in s
  pub read_ended : Probabilities a → Valid s r → contexts_of above left ≡ true → Bytes s → {x : Staged} → x ≡ modes_answer s a r above left old → {k : Kinds} {q : Reader} → x.answer ≡ Ok (k, q) → ReadTo InRange s r (macroblock_of k x.modes) q
  read_ended b v e y {x} f g = run_valid (modes_within a b above left) y v (read v e f ∙ ap (λ (z : ReadOf Kinds). stage_given z x.modes) g)

-- ---- from what was read to the calls' answers, which keep what was lent where a byte is missing
module _ (g : Given (List ℕ)) (old : List ℕ) {x : ReadOf (List ℕ)} (e : x ≡ to_read g) where
  pub sixteen_read : {l : List ℕ} {q : Reader} → x ≡ Ok (l, q) → record { answer = Ok q; modes = l } ≡ to_sixteen old g
  sixteen_read f = sym (ap (to_sixteen old) (moded g e ∙ ap from_read f))

  pub sixteen_missing : {u : Unread} → x ≡ Err u → record { answer = Err u; modes = old } ≡ to_sixteen old g
  sixteen_missing f = rw (unread_missing g (sym f ∙ e)) (sym (ap (to_sixteen old) (moded g e ∙ ap from_read f)))
