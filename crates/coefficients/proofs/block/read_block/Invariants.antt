use Rattle.numbers.specs.Words.{◌≡◌}
use Rattle.coefficients.specs.Block.{block}
use Rattle.coefficients.proofs.BlockTurns.{Going}
use Rattle.coefficients.proofs.block.read_block.Given as goal

abbrev pub invariant-loop-n : goal.invariant-loop-n
invariant-loop-n l =
    record {
      going : Going l.s l.table l.kind l.q0 l.q1 (block l.table l.kind l.q0 l.q1 l.ctx l.first l.fn.out) l.fn.r l.n l.near l.zero l.next l.values l.reads;
      kept : l.out ≡ l.fn.out;
    }
