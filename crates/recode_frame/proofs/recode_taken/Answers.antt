use Rattle.numbers.specs.Words.{arith, refl}
use Rattle.lent.specs.Memory.{memory_of}
use Rattle.recode_frame.specs.RecodeFrameLaws.{taken_sized, taken_ten, frame_refused_lem, frame_room, frame_laid}
use Rattle.recode_frame.proofs.recode_taken.Goals as goal

pub measure-n-requires : goal.measure-n-requires
measure-n-requires c = taken_sized c.requires (λ i. (c.shared_slice_known-1.given i).fits)

pub returns-then-written-ne0 : goal.returns-then-written-ne0
returns-then-written-ne0 c =
    frame_refused_lem c.requires (λ i. (c.shared_slice_known-1.given i).fits) (memory_of c.args.y.now c.args.u.now c.args.v.now c.args.columns.now c.args.modes.now c.args.strengths.now) c.args.out.now
    c.measure-n.ensures c.place-at.ensures c.recode_tokens-written.ensures refl
    c.if-written-ne0.true c.number_of.ensures c.refused.ensures

pub lay-requires : goal.lay-requires
lay-requires c =
    let r = frame_room c.requires (λ i. (c.shared_slice_known-1.given i).fits) (memory_of c.args.y.now c.args.u.now c.args.v.now c.args.columns.now c.args.modes.now c.args.strengths.now) c.args.out.now
    c.measure-n.ensures c.place-at.ensures c.recode_tokens-written.ensures refl c.if-written-ne0.false in
    (taken_sized c.requires (λ i. (c.shared_slice_known-1.given i).fits), taken_ten c.requires, r.0)

pub overflow_add-result : goal.overflow_add-result
overflow_add-result c =
    let r = frame_room c.requires (λ i. (c.shared_slice_known-1.given i).fits) (memory_of c.args.y.now c.args.u.now c.args.v.now c.args.columns.now c.args.modes.now c.args.strengths.now) c.args.out.now
    c.measure-n.ensures c.place-at.ensures c.recode_tokens-written.ensures refl c.if-written-ne0.false in
    record { fits = omega (arith, r.1, c.well_formed.1.1.1.1.1.1.1.1.1) }

pub returns : goal.returns
returns c =
    frame_laid c.requires (λ i. (c.shared_slice_known-1.given i).fits) (memory_of c.args.y.now c.args.u.now c.args.v.now c.args.columns.now c.args.modes.now c.args.strengths.now) c.args.out.now
    c.measure-n.ensures c.place-at.ensures c.recode_tokens-written.ensures refl
    c.if-written-ne0.false c.lay.ensures
