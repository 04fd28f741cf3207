use Rattle.numbers.specs.Words.{ℕ, ◌*◌, ◌/◌, ◌<◌, mul-le-mul, arith, ◌≡◌, sym, ◌∙◌, ap, Err}
use Rattle.choices.specs.declared.answer.Stop.{Stop}
use Rattle.header.specs.FrameLaws.{frame_good, frame_taken}
use Rattle.tile.specs.PartitionsLaws.{part_bytes, pick_below}
use Rattle.lent.specs.Memory.{memory_of}
use Rattle.choices.specs.Choices.{call_of, values_of}
use Rattle.picture.specs.Picture.{Picture, State, pictured_of, partition_of, Shared, Turned, turned_of}
use Rattle.picture.specs.PictureLaws.{task_is}
use Rattle.picture.specs.Halt.{state_of}
use Rattle.rescue.specs.RescueLaws.{rebuilt_turn, rebuilt_asks}
use Rattle.rescue.proofs.Turns.{going_start, going_next, going_refused, going_end, not_done, gone_none, gone_tokens, tokens_upto}
use borrow.Enum.Refused.{opened}
use Rattle.rescue.proofs.rest.rest.Goals as goal

pick_eight : {p : ℕ} (P : Picture) (k : ℕ) → Shared P → p ≡ partition_of P k → p < 8
pick_eight {p} P k s e = let l : p < P.count = rw e (pick_below (k / P.wide) P.count s.least) in omega (arith, l, s.most)

pub returns-in_default : goal.returns-in_default
returns-in_default c =
    let a = c.args in
    gone_none _ _ a.stop.answer (state_of a.stop.reader a.stop.readers a.stop.left (memory_of a.y.now a.u.now a.v.now a.columns.now a.modes.now a.strengths.now)) (λ k e. let h = c.in_default.is in cc) c.finished.ensures

pub returns-in_default-end : goal.returns-in_default-end
returns-in_default-end c =
    let a = c.args in
    gone_none _ _ a.stop.answer (state_of a.stop.reader a.stop.readers a.stop.left (memory_of a.y.now a.u.now a.v.now a.columns.now a.modes.now a.strengths.now)) (λ k e. c.in_default-end.not-NoTokens k (let h = c.in-Err.is in cc)) (c.finished-in_default-end.ensures ∙ ap values_of (sym c.in-Err.is))

pub overflow_mul-blocks : goal.overflow_mul-blocks
overflow_mul-blocks c = omega (arith, mul-le-mul c.requires.shared.wide c.requires.shared.high)

pub unwrap-frame-requires : goal.unwrap-frame-requires
unwrap-frame-requires c = rw (c.take.ensures ∙ frame_good _ c.requires.header_value)

pub loop-k-init : goal.loop-k-init
loop-k-init c = going_start _ _ _ (tokens_upto (c.in-Err.is ∙ ap (λ (s : Stop). Err s) c.in-NoTokens.is) c.requires.answer_bound) c.requires.live

pub offset_bounds-readers-p : goal.offset_bounds-readers-p
offset_bounds-readers-p c = omega (arith, pick_eight (pictured_of (call_of c.args.bytes.now c.args.tile c.args.header.now)) c.loop-k.k c.requires.shared c.pick-p.ensures)

pub bounds-readers-p : goal.bounds-readers-p
bounds-readers-p c = pick_eight (pictured_of (call_of c.args.bytes.now c.args.tile c.args.header.now)) c.loop-k.k c.requires.shared c.pick-p.ensures

pub turn-m-requires : goal.turn-m-requires
turn-m-requires c =
    let P : Picture = pictured_of (call_of c.args.bytes.now c.args.tile c.args.header.now) in
    let l = c.loop-k in
    let S : State = state_of l.r l.readers l.left (memory_of l.y l.u l.v l.columns l.modes l.strengths) in
    let f = frame_taken _ c.requires.header_value c.take.ensures c.unwrap-frame.ensures in
    let a = rebuilt_asks P S l.k c.requires.shared l.invariant.live c.loop-k-test.true (task_is P l.k S c.task_of.ensures c.pick-p.ensures f) c.part-first.ensures in
    record { legible = a.0; held = a.1.0; laid = a.1.1.0; room = a.1.1.1 }

pub offset_bounds-readers-p-in-loop-k : goal.offset_bounds-readers-p-in-loop-k
offset_bounds-readers-p-in-loop-k c = omega (arith, pick_eight (pictured_of (call_of c.args.bytes.now c.args.tile c.args.header.now)) c.loop-k.k c.requires.shared c.pick-p.ensures)

pub bounds-readers-p-in-loop-k : goal.bounds-readers-p-in-loop-k
bounds-readers-p-in-loop-k c = pick_eight (pictured_of (call_of c.args.bytes.now c.args.tile c.args.header.now)) c.loop-k.k c.requires.shared c.pick-p.ensures

pub loop-k-preserved : goal.loop-k-preserved
loop-k-preserved c =
    let P : Picture = pictured_of (call_of c.args.bytes.now c.args.tile c.args.header.now) in
    let l = c.loop-k in
    let S : State = state_of l.r l.readers l.left (memory_of l.y l.u l.v l.columns l.modes l.strengths) in
    let f = frame_taken _ c.requires.header_value c.take.ensures c.unwrap-frame.ensures in
    let n = c.turn-m.new in
    let T : Turned = turned_of c.turn-m.result.answer c.turn-m.result.left (memory_of n.y n.u n.v n.columns n.modes n.strengths) in
    let e = rebuilt_turn P l.k S _ c.turn-m.ensures (task_is P l.k S c.task_of.ensures c.pick-p.ensures f) c.part-first.ensures in
    going_next c.requires.shared l.invariant c.loop-k-test.true (part_bytes _ c.args.tile.first (λ i. (c.shared_slice_known-1.given i).fits)) T e c.in-Ok.is c.pick-p.ensures

pub returns-in_default-finish : goal.returns-in_default-finish
returns-in_default-finish c =
    let P : Picture = pictured_of (call_of c.args.bytes.now c.args.tile c.args.header.now) in
    let a = c.args in
    let l = c.loop-k in
    let S : State = state_of l.r l.readers l.left (memory_of l.y l.u l.v l.columns l.modes l.strengths) in
    let f = frame_taken _ c.requires.header_value c.take.ensures c.unwrap-frame.ensures in
    let n = c.turn-m.new in
    let T : Turned = turned_of c.turn-m.result.answer c.turn-m.result.left (memory_of n.y n.u n.v n.columns n.modes n.strengths) in
    let e = rebuilt_turn P l.k S _ c.turn-m.ensures (task_is P l.k S c.task_of.ensures c.pick-p.ensures f) c.part-first.ensures in
    gone_tokens _ P (state_of a.stop.reader a.stop.readers a.stop.left (memory_of a.y.now a.u.now a.v.now a.columns.now a.modes.now a.strengths.now)) (c.in-Err.is ∙ ap (λ (s : Stop). Err s) c.in-NoTokens.is)
    (going_refused c.requires.shared l.invariant c.loop-k-test.true T e (not_done _ c.in_default-finish.not-Ok))

pub returns : goal.returns
returns c =
    let P : Picture = pictured_of (call_of c.args.bytes.now c.args.tile c.args.header.now) in
    let a = c.args in
    let k : c.loop-k.k ≡ P.wide * P.high = omega (arith, c.loop-k.invariant.sum, c.loop-k-test.false) in
    gone_tokens _ P (state_of a.stop.reader a.stop.readers a.stop.left (memory_of a.y.now a.u.now a.v.now a.columns.now a.modes.now a.strengths.now)) (c.in-Err.is ∙ ap (λ (s : Stop). Err s) c.in-NoTokens.is)
    (rw k at (going_end c.loop-k.invariant c.loop-k-test.false))
