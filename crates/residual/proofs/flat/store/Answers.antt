use Rattle.numbers.specs.Words.{ℕ, zero, suc, ◌+◌, ◌≤◌, arith, ◌≡◌, sym, ◌∙◌, ap, List, length, get_or, set, placed, ℤ, pos}
use Rattle.std.proofs.Math.Seq.{paste, paste-zero, paste-suc}
use Rattle.std.proofs.lemmas.Slice.{put_mid-paste}
use Rattle.residual.proofs.flat.store.Goals as goal

-- one after the other is the same as all at once
pasted : (l c : List ℤ) (at n : ℕ) → at + n ≤ length l → n ≤ length c → placed l at (λ j. get_or c j (pos 0)) n ≡ paste l at c n
unfolding placed
pasted l c at zero h k = paste-zero l at c
pasted l c at (suc n) h k = ap (λ (x : List ℤ). set x (at + n) (get_or c n (pos 0))) (pasted l c at n (omega arith) (omega arith)) ∙ paste-suc l at c n (pos 0) (omega arith) (omega arith)

pub returns : goal.returns
returns c =
    put_mid-paste c.args.at _ c.args.flat.now c.copy_from_slice.new.self c.args.c.now 16 c.copy_from_slice.ensures.after (omega arith) (sym c.told-c)
    ∙ sym (pasted c.args.flat.now c.args.c.now c.args.at 16 c.requires (rw c.told-c (omega arith)))
