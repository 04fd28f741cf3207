-- `walk_token` meets its contract: the tests are the definition's, and behind them coeff_tree is walked with the eleven of the table.
use Rattle.numbers.specs.Words.{◌+◌, ◌≤◌, arith, ◌≡◌, refl, sym, ◌∙◌, false, bit_small, both_left, both_right, leb-true, length}
use Rattle.reader.specs.Reading.{count}
use Rattle.reader.specs.ReadingLaws.{Valid, valid_fact, run_valid}
use Rattle.reader.specs.Token.{token, token_of, eleven_at}
use Rattle.reader.specs.TokenLaws.{eleven_tree, eleven_part, token_fits, token_gives}
use Rattle.reader.specs.TreesLaws.{tree_fact}
use Rattle.reader.specs.CountsLaws.{token_refused, token_made, token_walked}
use Rattle.reader.proofs.token.walk_token.Goals as goal
use Rattle.reader.proofs.token.walk_token.Goals.{After-walk-t, Else-not-valid-has_eleven}

-- what the tests showed
good : (c : Else-not-valid-has_eleven) → (Valid c.args.s.now c.args.r × (c.args.at + 11 ≤ length c.args.table.now))
good c =
    let e = c.if-not-valid-has_eleven.false in
    (valid_fact _ _ (sym c.valid.ensures ∙ both_left _ _ e), leb-true _ _ (sym c.has_eleven.ensures ∙ both_right c.valid.result _ e))

-- what the walk says of the grammar
is : (c : After-walk-t) → ((c.walk-t.result.answer ≡ token_of c.args.s.now (eleven_at c.args.table.now c.args.at) c.args.zero c.args.r) × (c.walk-t.result.reads ≡ count (token (eleven_at c.args.table.now c.args.at) c.args.zero) c.args.s.now c.args.r))
is c = let a = c.args in token_walked a.s.now a.table.now a.at a.zero a.r refl c.from-start.ensures c.walk-t.ensures

pub returns-then-not-valid-has_eleven : goal.returns-then-not-valid-has_eleven
returns-then-not-valid-has_eleven c = token_refused _ _ _ _ _ c.valid.ensures c.has_eleven.ensures c.if-not-valid-has_eleven.true

pub walk-t-requires : goal.walk-t-requires
walk-t-requires c =
    let g = good (goal.at.walk-t-requires c).Else-not-valid-has_eleven in
    record {
      valid = g.0;
      tree = rw (eleven_part c.args.table.now c.args.at (c.args.at + 11) refl) (tree_fact _ _ 0 (eleven_tree c.args.table.now c.args.at false g.1));
      i_bound = omega (arith, c.from-start.ensures, bit_small c.args.zero);
    }

pub overflow_cast-result : goal.overflow_cast-result
overflow_cast-result c =
    let g = good (goal.at.overflow_cast-result c).Else-not-valid-has_eleven in
    let q = run_valid (token_fits c.args.table.now c.args.at c.args.zero (λ i. (c.type_inv.table i).fits)) (λ i. (c.type_inv.s i).fits) g.0 (token_gives _ _ _ _ (sym c.in-Ok.is ∙ (is (goal.at.overflow_cast-result c).After-walk-t).0)) in
    record { fits = omega (arith, q.value) }

pub returns-in-Ok : goal.returns-in-Ok
returns-in-Ok c = let w = is (goal.at.returns-in-Ok c).After-walk-t in token_made _ _ _ _ _ c.valid.ensures c.has_eleven.ensures c.if-not-valid-has_eleven.false (sym c.in-Ok.is ∙ w.0) w.1

pub returns-in-Err : goal.returns-in-Err
returns-in-Err c = let w = is (goal.at.returns-in-Err c).After-walk-t in token_made _ _ _ _ _ c.valid.ensures c.has_eleven.ensures c.if-not-valid-has_eleven.false (sym c.in-Err.is ∙ w.0) w.1
