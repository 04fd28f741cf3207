use Rattle.numbers.specs.Words.{ℕ, ◌-◌, ◌≤◌, ◌<◌, min, arith, ◌≡◌, refl, ◌∙◌, ap, subst, List, ◌++◌, length, take, drop, copy_whole}
use Rattle.lent.specs.Memory.{memory_of}
use Rattle.choices.specs.Choices.{call_of}
use Rattle.recode.specs.PassLaws.{recode_refused, recode_fitted, recode_laid}
use Rattle.recode.proofs.recode.Goals as goal

least : {a b m : ℕ} → m ≡ min a b → (m ≤ a) × (m ≤ b) × (m < b → m ≡ a)
least e = (omega arith, omega arith, λ h. omega arith)

pub returns-then-written-ne0 : goal.returns-then-written-ne0
returns-then-written-ne0 c = recode_refused (call_of c.args.bytes.now c.args.tile c.args.header.now) (memory_of c.args.y.now c.args.u.now c.args.v.now c.args.columns.now c.args.modes.now c.args.strengths.now) c.args.out.now c.min-at.result (least c.min-at.ensures).1 c.recode_tokens-written.ensures refl (subst (λ (l : List ℕ). c.min-at.result ≤ length l) c.part-first.ensures (least c.min-at.ensures).0) c.if-written-ne0.true c.refused.ensures

pub returns : goal.returns
returns c =
    let a = c.args in
    let k = c.min-at.result in
    let room : List ℕ = take k a.out.now ++ (c.recode_tokens-written.new.out ++ drop (length a.out.now - k) (drop k a.out.now)) in
    let z = recode_fitted (call_of c.args.bytes.now c.args.tile c.args.header.now) (memory_of c.args.y.now c.args.u.now c.args.v.now c.args.columns.now c.args.modes.now c.args.strengths.now) c.args.out.now c.min-at.result (least c.min-at.ensures).1 c.recode_tokens-written.ensures refl (λ i. (c.shared_slice_known-1.given i).fits) (λ h. (least c.min-at.ensures).2 h ∙ ap length c.part-first.ensures) c.if-written-ne0.false in
    recode_laid (call_of c.args.bytes.now c.args.tile c.args.header.now) (memory_of c.args.y.now c.args.u.now c.args.v.now c.args.columns.now c.args.modes.now c.args.strengths.now) c.args.out.now c.min-at.result (least c.min-at.ensures).1 c.recode_tokens-written.ensures refl z c.part-first.ensures (copy_whole c.part-first.result.now room c.copy.ensures (omega (arith, z.first, ap length c.part-first.ensures, (least c.min-at.ensures).1))) c.one_tile-after.ensures
