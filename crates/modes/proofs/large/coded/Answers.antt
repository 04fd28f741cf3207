use Rattle.numbers.specs.Words.{ℕ, ◌<◌, arith, ◌≡◌, ◌∙◌, ap}
use Rattle.reader.specs.Reading.{Given, Within, to_read}
use Rattle.reader.specs.ReadingLaws.{from_read, run_valid}
use Rattle.reader.specs.TreesLaws.{walked}
use Rattle.reader.specs.Counts.{Took}
use Rattle.reader.specs.CountsLaws.{tree_count_good}
use Rattle.modes.specs.Modes.{tree}
use Rattle.modes.specs.ModesLaws.{leaves_within}
use Rattle.modes.proofs.Careful.{told}
use Rattle.modes.proofs.large.coded.Goals as goal
use Rattle.modes.proofs.large.coded.Goals.{After-walk_tree-w}

within : (c : After-walk_tree-w) → Within (λ v. v < 256) 32 (tree c.args.probs.now c.args.t.now)
within c = leaves_within _ _ (λ i. (c.type_inv.probs i).fits) c.requires.t_value_2

-- what the call's answer says of the grammar
took : (c : After-walk_tree-w) {x : Given ℕ} → from_read c.walk_tree-w.result.answer ≡ x → Took (tree c.args.probs.now c.args.t.now) c.args.s.now c.args.r x c.walk_tree-w.result.reads
took c e =
    record { gave = walked _ _ _ _ _ c.requires.valid c.requires.t_value c.walk_tree-w.ensures.0 ∙ e; took = c.walk_tree-w.ensures.1 ∙ tree_count_good _ _ _ _ _ c.requires.valid c.requires.t_value }

pub returns-in_default : goal.returns-in_default
returns-in_default c = let t = (goal.at.returns-in_default c).After-walk_tree-w in told to_read (within t) (took t (ap from_read c.in_default.is))

pub overflow_cast-result : goal.overflow_cast-result
overflow_cast-result c =
    let t = (goal.at.overflow_cast-result c).After-walk_tree-w in
    let q = run_valid (within t) (λ i. (c.type_inv.s i).fits) c.requires.valid (took t (ap from_read c.in-Ok.is)).gave in
    record { fits = omega (arith, q.value) }

pub returns : goal.returns
returns c = let t = (goal.at.returns c).After-walk_tree-w in told to_read (within t) (took t (ap from_read c.in-Ok.is))
