use Rattle.numbers.specs.Words.{◌≡◌, sym, ◌∙◌, true, not-false, not-true, rules}
use Rattle.casefile.specs.RunLaws.{run_malformed, run_formed}
use Rattle.casefile.specs.CaseFileLaws.{Formed, well_formed_lem}
use Rattle.casefile.specs.CaseFile.{well_formed_of}
use Rattle.casefile.proofs.run.run.Statement.{statement}
use Rattle.casefile.proofs.run.run.Tie as tie

fine : (c : tie.Else-not-well_formed) → well_formed_of c.args.file.now ≡ true
fine c = sym c.well_formed-2.ensures ∙ not-false _ c.if-not-well_formed.false-raw

formed : (c : tie.Else-not-well_formed) → Formed c.args.file.now
formed c = well_formed_lem _ (fine c)

well-formed-requires : tie.Need-well_formed-requires
well-formed-requires c κs = search rules

malformed-requires : tie.Need-malformed-requires
malformed-requires c κs = search rules

returns : tie.Need-returns-then-not-well_formed
returns c = c.malformed.ensures ∙ run_malformed _ (sym c.well_formed-2.ensures ∙ not-true _ c.if-not-well_formed.true-raw)

width-requires : tie.Need-width-requires
width-requires c κs = (formed c).long

height-requires : tie.Need-height-requires
height-requires c κs = (formed c.before).long

lent-requires : tie.Need-lent-requires
lent-requires c κs = (formed c.before.before, (c.width.ensures, c.height.ensures))

returns-2 : tie.Need-returns
returns-2 c = run_formed _ (fine c.before.before.before) c.width.ensures c.height.ensures c.lent.ensures

pub run_spec : {M : Type 1} → statement M
run_spec = tie.close (tie.spec well-formed-requires malformed-requires returns width-requires height-requires lent-requires returns-2)
