-- `line` meets its contract in each branch.
use Rattle.numbers.specs.Words.{◌≡◌, ◌∙◌, ap, Bool, List, ℤ, round, there, w32, rules}
use Rattle.transform.specs.Transform.{line_of}
use Rattle.transform.proofs.line.Statement.{statement}
use Rattle.transform.proofs.line.Tie as tie

-- what a transform's line answers
told : (s : tie.Start) (w : Bool) {q : List ℤ} → q ≡ line_of w (round w32 s.args.bias) s.args.r → q ≡ line_of w s.args.bias s.args.r
told s w e = e ∙ ap (λ (b : ℤ). line_of w b s.args.r) (there w32 s.requires.1 tt).eq

returns : tie.Need-returns-then-walsh
returns c = rw c.if-walsh.true (told c.before.before _ c.walsh_line.ensures)

returns-2 : tie.Need-returns-else-walsh
returns-2 c = rw c.if-walsh.false (told c.before.before _ c.dct_line.ensures)

pub line_spec : {M : Type 1} → statement M
line_spec = tie.close (tie.spec (λ c κs. search rules) (λ c κs. search rules) returns returns-2)
