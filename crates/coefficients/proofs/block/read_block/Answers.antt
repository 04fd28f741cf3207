-- `read_block` meets its contract. The loop's invariant: what is left to read gives what the whole block gives, and `out` is untouched.
use Rattle.numbers.specs.Words.{arith, refl, ap, eq-eqb, ne_eqb}
use Rattle.reader.specs.ReadingLaws.{from_read}
use Rattle.coefficients.specs.Block.{bands, zigzag, block_of, block}
use Rattle.coefficients.proofs.BlockTurns.{going_start, going_end, Turn, turn, turn_missing, token_read, turn_ended, turn_zero, number_short, turn_lost, turn_number, called_missing, called_ended}
use Rattle.coefficients.proofs.block.read_block.Goals as goal
use Rattle.coefficients.proofs.block.read_block.Goals.{After-walk_token-t, then-zero, else-zero+in-Ok-answer}

-- the turn, once the token was asked
turn_at : (c : After-walk_token-t) → Turn c.args.s.now c.args.table.now c.args.kind c.args.q0 c.args.q1 (block c.args.table.now c.args.kind c.args.q0 c.args.q1 c.args.ctx c.args.first c.args.out.now) c.args.r c.loop-n.n c.loop-n.near c.loop-n.zero c.loop-n.next c.loop-n.values c.loop-n.reads c.walk_token-t.result.answer c.walk_token-t.result.reads
turn_at c = turn c.loop-n.invariant.going c.loop-n-test.true c.place.ensures.0 (omega (arith, c.place.ensures.1, c.requires.table_len.0)) c.walk_token-t.ensures (λ i. (c.type_inv.s i).fits) (λ i. (c.type_inv.table i).fits)

pub loop-n-init : goal.loop-n-init
loop-n-init c = record { going = going_start c.requires.valid c.requires.table_len.1.1.0 c.requires.table_len.1.1.1; kept = refl }

pub place-requires-clause-table_value : goal.place-requires-clause-table_value
unfolding bands
place-requires-clause-table_value c = refl

pub overflow_add-reads : goal.overflow_add-reads
overflow_add-reads c =
    let t = turn_at (goal.at.overflow_add-reads c).After-walk_token-t in
    omega (arith, t.few, t.short, t.sum)

pub returns-in_default : goal.returns-in_default
unfolding block_of
returns-in_default c =
    let t = turn_at (goal.at.returns-in_default c).After-walk_token-t in
    rw c.missing.ensures (called_missing _ _ _ _ c.loop-n.invariant.kept (turn_missing t (ap from_read c.in_default.is)))

pub returns-then-token-eq0 : goal.returns-then-token-eq0
unfolding block_of
returns-then-token-eq0 c =
    let t = turn_at (goal.at.returns-then-token-eq0 c).After-walk_token-t in
    called_ended _ _ _ _ (turn_ended t c.in-Ok.is c.if-token-eq0.true)

pub read_signed-number-requires-clause-valid : goal.read_signed-number-requires-clause-valid
read_signed-number-requires-clause-valid c =
    let t = turn_at (goal.at.read_signed-number-requires-clause-valid c).After-walk_token-t in
    (token_read t c.in-Ok.is).valid

pub read_signed-number-requires-clause-le_token : goal.read_signed-number-requires-clause-le_token
read_signed-number-requires-clause-le_token c =
    let t = turn_at (goal.at.read_signed-number-requires-clause-le_token c).After-walk_token-t in
    (omega (arith, c.if-token-eq0.false, c.if-zero.false), omega (arith, (token_read t c.in-Ok.is).value))

pub overflow_add-reads-else-zero : goal.overflow_add-reads-else-zero
overflow_add-reads-else-zero c =
    let t = turn_at (goal.at.overflow_add-reads-else-zero c).After-walk_token-t in
    let n = number_short t c.in-Ok.is (omega (arith, c.if-token-eq0.false, c.if-zero.false)) c.quantizer.ensures c.read_signed-number.ensures in
    omega (arith, t.few, t.short, t.sum, n)

pub returns-in_default-answer : goal.returns-in_default-answer
unfolding block_of
returns-in_default-answer c =
    let t = turn_at (goal.at.returns-in_default-answer c).After-walk_token-t in
    rw c.missing-in_default-answer.ensures
    (called_missing _ _ _ _ c.loop-n.invariant.kept
    (turn_lost t c.in-Ok.is (omega (arith, c.if-token-eq0.false, c.if-zero.false)) c.quantizer.ensures c.read_signed-number.ensures (ap from_read c.in_default-answer.is)))

pub loop-n-preserved : goal.loop-n-preserved
unfolding zigzag
loop-n-preserved c =
    let t = turn_at (goal.at.loop-n-preserved c).After-walk_token-t in
    record {
      going = elim c.if-zero.branch [
        | then-zero w ↦ rw (w.values-is, w.next-is, w.near-is, w.reads-is, eq-eqb _ 1 w.if-zero.true) (turn_zero t c.in-Ok.is w.if-zero.true)
        | else-zero+in-Ok-answer w ↦
            rw (w.values-is, w.next-is, w.near-is, w.reads-is, ne_eqb _ 1 w.if-zero.false)
            (turn_number t c.in-Ok.is (omega (arith, c.if-token-eq0.false, w.if-zero.false)) w.quantizer.ensures w.read_signed-number.ensures w.in-Ok-answer.is w.context-near.ensures w.entry.ensures.0)
      ];
      kept = c.loop-n.invariant.kept;
    }

pub returns : goal.returns
unfolding block_of
returns c = called_ended _ _ _ _ (going_end c.loop-n.invariant.going c.loop-n-test.false)
