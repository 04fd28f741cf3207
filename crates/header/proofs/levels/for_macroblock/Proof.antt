use Rattle.numbers.specs.Words.{◌≡◌, Some, sym, ◌∙◌, ap, true, not-false, not-true, rules}
use Rattle.header.specs.Header.{header_of}
use Rattle.header.specs.HeaderLaws.{header_length, header_each}
use Rattle.header.specs.LevelsLaws.{level_good, level_header, level_none}
use Rattle.header.proofs.levels.for_macroblock.Statement.{statement}
use Rattle.header.proofs.levels.for_macroblock.Tie as tie
use Rattle.header.proofs.levels.for_macroblock.Reads as reads
use Rattle.header.proofs.levels.for_macroblock.Lts as lts
use Rattle.header.proofs.entries.header_fine.Reads as header-fine-reads
use Rattle.header.proofs.levels.leveled.Reads as leveled-reads

header-fine-requires : tie.Need-header_fine-requires
header-fine-requires c κs = search rules

returns : tie.Need-returns-then-not-header_fine
returns c = level_header _ _ _ (sym c.header_fine.ensures ∙ not-true _ c.if-not-header_fine.true-raw)

returns-2 : tie.Need-returns-then-segment-ge4
returns-2 c = level_none _ _ _ c.if-segment-ge4.true

fine : (c : tie.Else-segment-ge4) → header_of c.args.h.now ≡ true
fine c = sym c.header_fine.ensures ∙ not-false _ c.if-not-header_fine.false-raw

leveled-requires : tie.Need-leveled-requires
leveled-requires c κs = ((header_length _ (fine c), search rules), header_each _ (fine c))

returns-3 : tie.Need-returns
returns-3 c = ap Some c.leveled.ensures ∙ sym (level_good _ _ _ (fine c.before) (search rules))

pub for_macroblock_spec : {M : Type 1} → statement M
for_macroblock_spec = tie.close (tie.spec header-fine-requires returns returns-2 leveled-requires returns-3)
