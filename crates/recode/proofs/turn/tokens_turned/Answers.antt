use Rattle.numbers.specs.Words.{arith}
use Rattle.recode.specs.TurnCopies.{tokens_done}
use Rattle.recode.proofs.turn.tokens_turned.Goals as goal

pub tokens_copied-flow-requires : goal.tokens_copied-flow-requires
tokens_copied-flow-requires c = c.requires

pub returns : goal.returns
returns c = tokens_done c.args.tokens.now c.args.table.now c.args.task c.args.around c.args.kinds c.args.next c.args.modes.now c.args.columns.now _ (λ i. (c.shared_slice_known-1.given i).fits) (omega (arith, c.well_formed.0)) c.tokens_copied-flow.ensures c.bottom-lowest.ensures c.right-rightmost.ensures c.write_column.ensures c.narrow-token.ensures
