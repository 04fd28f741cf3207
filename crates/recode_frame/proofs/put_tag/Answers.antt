use Rattle.numbers.specs.Words.{ℕ, ◌+◌, ◌*◌, ◌/◌, ◌%◌, arith, refl, get_or, set, lt-length-set}
use Rattle.recode_frame.specs.RecodeFrameLaws.{tag_put}
use Rattle.recode_frame.proofs.put_tag.Goals as goal

pub bounds-out-1 : goal.bounds-out-1
bounds-out-1 c = lt-length-set c.args.out.now 0 _ (omega (arith, c.requires.1))

pub bounds-out-2 : goal.bounds-out-2
bounds-out-2 c =
    let x : ℕ = get_or c.args.bytes.now 0 0 % 32 + c.args.n % 8 * 32 in
    lt-length-set (set c.args.out.now 0 x) 1 (c.args.n / 8 % 256) (lt-length-set c.args.out.now 0 x (omega (arith, c.requires.1)))

pub returns : goal.returns
returns c = tag_put c.args.bytes.now c.args.out.now c.args.n c.requires.1 refl refl refl
