use Rattle.macroblock.specs.Macroblock.{no_reads}
use Rattle.numbers.specs.Words.{Err}
use Rattle.choices.specs.declared.answer.Stop.TheVariants as Stop
use Rattle.picture.proofs.refused.Goals as goal

pub returns : goal.returns
returns c = λ i. record { answer = Err (Stop.Refused c.args.bad); reads = no_reads; reader = c.args.tile.reader; readers = c.openers.ensures i; left = c.empty.ensures i }
