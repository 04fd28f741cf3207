-- The laws of a macroblock's counts: which they are, as the code finds them, and how large they can be.
use Rattle.std.specs.Prelude.{◌≤◌, ◌≡◌, ◌&&◌}
use Rattle.numbers.specs.Words.{ℕ, arith, sym, ◌∙◌, ap, Bool, true, false, both_true, both_false, List, length}
use Rattle.reader.specs.declared.boolean.Reader.{Reader}
use Rattle.reader.specs.Reading.{Given, given, missing, run, count}
use Rattle.reader.specs.ReadingLaws.{Bytes, count_within}
use Rattle.header.specs.declared.frame.Frame.{Frame}
use Rattle.header.specs.Frame.{factors_at}
use Rattle.modes.specs.Modes.{Macroblock, modes_of}
use Rattle.modes.specs.ModesLaws.{modes_within}
use Rattle.residual.specs.Residual.{residual_of}
use Rattle.residual.specs.ResidualLaws.{residual_within}
use Rattle.macroblock.specs.Macroblock.{Place, Readers, Around, Planes, ready_of, place_fine, Ready, Laid, SymbolCounts, no_reads, macroblock_token_reads, reads_of, decode_reads, AtMost}
use Rattle.macroblock.specs.DecodeLaws.{ready_test, laid_test}

module _ (first tokens : List ℕ) (readers : Readers) (f : Frame) (table : List ℕ) (around : Around) where
  abbrev modes_run : Given Macroblock
  modes_run = run (modes_of f.announced around.top.modes around.left.modes) first readers.first

  abbrev modes_count : ℕ
  modes_count = count (modes_of f.announced around.top.modes around.left.modes) first readers.first

  abbrev tokens_count : Macroblock → ℕ
  tokens_count m = count (residual_of table (factors_at f m.segment) m.small m.skip around.top.flags around.left.flags) tokens readers.token

  -- ---- as the code finds them
  found : {g : Given Macroblock} → modes_run ≡ g → {n : ℕ} → n ≡ modes_count → record { first = n; tokens = macroblock_token_reads tokens readers.token f table around g } ≡ reads_of first tokens readers f table around
  unfolding reads_of
  found e h = λ i. record { first = h i; tokens = macroblock_token_reads tokens readers.token f table around (sym e i) }

  pub reads_no_modes : modes_run ≡ missing → {n : ℕ} → n ≡ modes_count → record { first = n; tokens = 0 } ≡ reads_of first tokens readers f table around
  reads_no_modes e h = found e h

  pub reads_both : {m : Macroblock} {q : Reader} → modes_run ≡ given m q → {n k : ℕ} → n ≡ modes_count → k ≡ tokens_count m → record { first = n; tokens = k } ≡ reads_of first tokens readers f table around
  reads_both e {n} {k} h g = ap (λ (i : ℕ). record { first = n; tokens = i }) g ∙ found e h

  -- ---- how many they can be
  pub reads_most : Ready first tokens readers f table around → Bytes table → AtMost 1 (reads_of first tokens readers f table around)
  unfolding reads_of
  reads_most a b =
      record {
        first = count_within first readers.first (modes_within f.announced a.sound.announced around.top.modes around.left.modes);
        tokens = go modes_run;
      }
    where
      go : (g : Given Macroblock) → macroblock_token_reads tokens readers.token f table around g ≤ 7296
      go (given m q) = count_within tokens readers.token (residual_within table (factors_at f m.segment) b m.small m.skip a.top a.left)
      go missing = omega arith

  -- ---- the call
  module _ (place : Place) (p : Planes) where
    abbrev able : Bool
    able = ready_of first tokens readers f (length table) around

    abbrev fine : Bool
    fine = place_fine (length p.y) (length p.u) (length p.v) place

    pub reads_passed : able ≡ true → fine ≡ true → reads_of first tokens readers f table around ≡ decode_reads first tokens readers f table around place p
    unfolding decode_reads
    reads_passed a b = rw (both_true a b, decode_reads)

    refused : able && fine ≡ false → {x : SymbolCounts} → x ≡ no_reads → x ≡ decode_reads first tokens readers f table around place p
    unfolding decode_reads
    refused e g = rw (g, e, decode_reads)

    pub reads_unready : able ≡ false → {x : SymbolCounts} → x ≡ no_reads → x ≡ decode_reads first tokens readers f table around place p
    reads_unready e = refused (rw e)

    pub reads_unlaid : fine ≡ false → {x : SymbolCounts} → x ≡ no_reads → x ≡ decode_reads first tokens readers f table around place p
    reads_unlaid e = refused (both_false able e)

    -- THE LAW for callers: with good arguments it is what the macroblock reads
    pub reads_good : Ready first tokens readers f table around → Laid place p → decode_reads first tokens readers f table around place p ≡ reads_of first tokens readers f table around
    reads_good a b = sym (reads_passed (ready_test first tokens readers f table around a) (laid_test place p b))
