use Rattle.numbers.specs.Words.{ℕ, ◌+◌, arith, ◌≡◌, refl, sym, ◌∙◌, ap, not-false, not-true, List, get_or}
use Rattle.reader.specs.Token.{eleven_at}
use Rattle.reader.specs.TokenLaws.{eleven_at_lem}
use Rattle.recode.specs.Copies.{ask_copies}
use Rattle.recode.specs.TokenCopies.{from_leaf, from_node, token_from}
use Rattle.recode.proofs.token.copy_token.Goals as goal

first : (table : List ℕ) (at : ℕ) → get_or table at 0 ≡ get_or (eleven_at table at) 0 0
first table at =
    let e : at ≡ at + 0 = omega arith in
    ap (λ (k : ℕ). get_or table k 0) e ∙ sym (eleven_at_lem table at 0 (omega arith))

pub copy_value-requires : goal.copy_value-requires
copy_value-requires c = record { tree_value = c.requires.tree_value; at_in_bounds = c.requires.at_in_bounds }

pub returns-then-zero : goal.returns-then-zero
returns-then-zero c = (token_from (eleven_at c.args.table.now c.args.at) c.if-zero.true c.copy_value.ensures.0, c.copy_value.ensures.1)

pub bounds-table-at : goal.bounds-table-at
bounds-table-at c = omega (arith, c.requires.at_in_bounds)

pub returns-then-not-e : goal.returns-then-not-e
returns-then-not-e c = (token_from (eleven_at c.args.table.now c.args.at) c.if-zero.false (from_leaf (eleven_at c.args.table.now c.args.at) 0 (omega arith) (first c.args.table.now c.args.at) (ask_copies (c.shared_slice_known-2-1.given _).fits c.ask-e.ensures) (not-true _ c.if-not-e.true) refl), omega arith)

pub copy_value-requires-2 : goal.copy_value-requires-2
copy_value-requires-2 c = record { tree_value = c.requires.tree_value; at_in_bounds = c.requires.at_in_bounds }

pub returns : goal.returns
returns c = (token_from (eleven_at c.args.table.now c.args.at) c.if-zero.false (from_node (eleven_at c.args.table.now c.args.at) 0 (omega arith) (first c.args.table.now c.args.at) (ask_copies (c.shared_slice_known-2-1.given _).fits c.ask-e.ensures) (not-false _ c.if-not-e.false) refl c.copy_value-2.ensures.0), c.copy_value-2.ensures.1)
