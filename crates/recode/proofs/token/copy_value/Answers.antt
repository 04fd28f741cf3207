use Rattle.numbers.specs.Words.{arith, refl, sym, not-false, not-true}
use Rattle.reader.specs.Token.{eleven_at}
use Rattle.reader.specs.TokenLaws.{eleven_at_lem}
use Rattle.recode.specs.Copies.{ask_copies}
use Rattle.recode.specs.TokenCopies.{from_leaf, from_node}
use Rattle.recode.proofs.token.copy_value.Goals as goal

pub overflow_add-at : goal.overflow_add-at
overflow_add-at c = omega (arith, c.requires.at_in_bounds)

pub bounds-table-at : goal.bounds-table-at
bounds-table-at c = omega (arith, c.requires.at_in_bounds)

pub returns-then-not-z : goal.returns-then-not-z
returns-then-not-z c = (from_leaf (eleven_at c.args.table.now c.args.at) 1 (omega arith) (sym (eleven_at_lem c.args.table.now c.args.at 1 (omega arith))) (ask_copies (c.shared_slice_known-2-1.given _).fits c.ask-z.ensures) (not-true _ c.if-not-z.true) refl, omega arith)

pub copy_number-requires : goal.copy_number-requires
copy_number-requires c = record { tree_value = c.requires.tree_value; at_in_bounds = c.requires.at_in_bounds }

pub returns : goal.returns
returns c = (from_node (eleven_at c.args.table.now c.args.at) 1 (omega arith) (sym (eleven_at_lem c.args.table.now c.args.at 1 (omega arith))) (ask_copies (c.shared_slice_known-2-1.given _).fits c.ask-z.ensures) (not-false _ c.if-not-z.false) refl c.copy_number.ensures.0, c.copy_number.ensures.1)
