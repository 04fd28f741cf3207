use Rattle.numbers.specs.Words.{ℕ, ◌+◌, ◌≤◌, arith, ◌≡◌, ◌∙◌, List, length, take, drop, built, get_or, get_or-take, get_or-drop, length-take-le, length-drop, ℤ, pos}
use Rattle.residual.specs.Residual.{sixteen_at}
use Rattle.residual.proofs.flat.sixteen.Goals as goal

part : (l : List ℤ) (at n : ℕ) → n ≡ 16 → at + 16 ≤ length l → take n (drop at l) ≡ sixteen_at l at
unfolding sixteen_at
part l at n e h =
    rw e
    (built (take 16 (drop at l)) 16 (λ j. get_or l (at + j) (pos 0)) (pos 0) (length-take-le 16 (drop at l) (rw (length-drop at l) (omega arith)))
    (λ i k. get_or-take 16 (drop at l) i (pos 0) k ∙ get_or-drop at l i (pos 0)))

pub returns : goal.returns
returns c = c.copy_from_slice.ensures.after ∙ part c.args.flat.now c.args.at _ (omega arith) c.requires
