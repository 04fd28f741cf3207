use Rattle.numbers.specs.Words.{◌≡◌, ◌∙◌, ap, length, rules}
use Rattle.residual.specs.Residual.{residual_answer}
use Rattle.residual.specs.QuickLaws.{quick_good, quick_kept}
use Rattle.residual.proofs.read_fast.Statement.{statement}
use Rattle.residual.proofs.read_fast.Tie as tie

read-residual-requires : tie.Need-read_residual-requires
read-residual-requires c κs = search rules

same_length : tie.Need-shape_of-out-then-skip
same_length c = search rules

returns : tie.Need-returns-then-skip
returns c = search rules

read-quick-requires : tie.Need-read_quick-q-requires
read-quick-requires c κs = search rules

same-length-2 : tie.Need-shape_of-out-then-q
same-length-2 c = search rules

returns-2 : tie.Need-returns-then-q
returns-2 c = quick_good c.args.s.now c.args.r c.args.table.now c.args.f c.args.small c.args.top c.args.left c.args.out.now c.read_quick-q.new.out c.read_quick-q.result c.read_quick-q.ensures c.if-skip.false c.if-q.true

-- where the end was passed, the coefficients are as they were
kept : (c : tie.Else-q) → (c.read_quick-q.new.out ≡ c.args.out.now)
kept c =
    quick_kept c.args.s.now c.args.r c.args.table.now c.args.f c.args.small c.args.top c.args.left c.args.out.now c.read_quick-q.new.out c.read_quick-q.result c.read_quick-q.ensures c.if-q.false

read-residual-requires-2 : tie.Need-read_residual-requires-2
read-residual-requires-2 c κs = (c.requires.0, (c.requires.1.0, ap length (kept c.before) ∙ c.requires.1.1))

same-length-3 : tie.Need-shape_of-out
same-length-3 c = search rules

returns-3 : tie.Need-returns
returns-3 c = (c.read_residual-2.ensures.0 ∙ ap (residual_answer c.args.s.now c.args.r c.args.table.now c.args.f c.args.small c.args.skip c.args.top c.args.left) (kept c.before.before.before), c.read_residual-2.ensures.1)

pub read_fast_spec : {M : Type 1} → statement M
read_fast_spec = tie.close (tie.spec read-residual-requires same_length returns read-quick-requires same-length-2 returns-2 read-residual-requires-2 same-length-3 returns-3)
