-- `any` meets its contract: where nothing was found, none of those passed has a flag.
use Rattle.numbers.specs.Words.{ℕ, arith, ◌≡◌, refl, Bool, true, false, ◌||◌, never, get_or}
use Rattle.transform.specs.TransformLaws.{below_next}
use Rattle.planes.proofs.blocks.any.Goals as goal

neither : (a b : Bool) → a || b ≡ false → (a ≡ false) × (b ≡ false)
neither true b e = absurd (never refl e)
neither false b e = (refl, e)

pub loop-i-init : goal.loop-i-init
loop-i-init c = (omega arith, λ e j h. absurd (omega arith))

pub loop-i-preserved : goal.loop-i-preserved
loop-i-preserved c = (omega arith, λ e. let n = neither (get_or c.args.coded.now c.loop-i.i false) c.loop-i.some e in below_next (λ (j : ℕ). get_or c.args.coded.now j false ≡ false) c.loop-i.i n.0 (c.loop-i.invariant.1 n.1))

pub returns : goal.returns
returns c = let e : c.loop-i.i ≡ 16 = omega arith in rw e at c.loop-i.invariant.1
