use Rattle.numbers.specs.Words.{◌-◌, arith, length, take, drop, length-take, length-drop, copy_whole}
use Rattle.webp.specs.WriteLaws.{laid_is}
use Rattle.webp.proofs.write.lay.Goals as goal

pub returns : goal.returns
returns c =
    let a = c.args in
    let room = take (length a.out.now - a.at) (drop a.at a.out.now) in
    laid_is a.out.now a.at a.b.now c.requires (copy_whole a.b.now room c.copy.ensures (rw (length-take, length-drop) (omega arith)))
