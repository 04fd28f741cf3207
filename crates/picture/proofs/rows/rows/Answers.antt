use Rattle.numbers.specs.Words.{ℕ, ◌*◌, ◌/◌, ◌≤◌, ◌<◌, mul-le-mul, arith, ◌≡◌, refl, ◌∙◌, ap}
use Rattle.reader.specs.ReadingLaws.{Bytes}
use Rattle.tile.specs.Tile.{span_at_of}
use Rattle.tile.specs.PartitionsLaws.{part_bytes, pick_below}
use Rattle.lent.specs.Memory.{memory_of, packed}
use Rattle.picture.specs.Halt.{state_of}
use Rattle.picture.specs.Picture.{Picture, State, cut_out, partition_of, Turned, turned_of, Shared}
use Rattle.picture.specs.CountsLaws.{reads_in}
use Rattle.picture.specs.PictureLaws.{task_is, column_below, turn_asks, ends_at, turn_at}
use Rattle.picture.proofs.Answers.{not_done}
use Rattle.picture.proofs.Turns.{Total, total_of, live_from, total_most, stop_is, going_start, going_able, going_next, going_refused, going_end}
use Rattle.picture.proofs.rows.rows.Goals as goal

pick_eight : {p : ℕ} (P : Picture) (k : ℕ) → Shared P → p ≡ partition_of P k → p < 8
pick_eight {p} P k s e = let l : p < P.count = rw e (pick_below (k / P.wide) P.count s.least) in omega (arith, l, s.most)

some_wide : (P : Picture) (k : ℕ) → k < P.wide * P.high → 0 < P.wide
some_wide P k h = omega (arith, column_below P k h)

pub overflow_mul-blocks : goal.overflow_mul-blocks
overflow_mul-blocks c = omega (arith, mul-le-mul c.requires.shared.wide c.requires.shared.high)

pub loop-k-init : goal.loop-k-init
loop-k-init c =
    let g = going_start _ _ (live_from c.openers-readers.ensures c.empty-left.ensures c.requires.live) in
    record { rest = g.rest; sum = g.sum; same = g.same; paid = g.paid; live = g.live }

pub nonzero_div-k : goal.nonzero_div-k
nonzero_div-k c = some_wide (cut_out packed c.args.bytes.now c.args.tile c.args.frame c.args.table.now) c.loop-k.k c.loop-k-test.true

pub offset_bounds-readers-p : goal.offset_bounds-readers-p
offset_bounds-readers-p c = omega (arith, pick_eight (cut_out packed c.args.bytes.now c.args.tile c.args.frame c.args.table.now) c.loop-k.k c.requires.shared c.pick-p.ensures)

pub bounds-readers-p : goal.bounds-readers-p
bounds-readers-p c = pick_eight (cut_out packed c.args.bytes.now c.args.tile c.args.frame c.args.table.now) c.loop-k.k c.requires.shared c.pick-p.ensures

pub task_of-requires : goal.task_of-requires
task_of-requires c = (some_wide (cut_out packed c.args.bytes.now c.args.tile c.args.frame c.args.table.now) c.loop-k.k c.loop-k-test.true, c.requires.shared.wide)

pub turn-m-requires : goal.turn-m-requires
turn-m-requires c =
    let P : Picture = cut_out packed c.args.bytes.now c.args.tile c.args.frame c.args.table.now in
    let l = c.loop-k in
    let S : State = state_of l.r l.readers l.left (memory_of l.y l.u l.v l.columns l.modes l.strengths) in
    let d = c.token-tokens.ensures ∙ ap P.token c.pick-p.ensures in
    let a = turn_asks P S l.k c.requires.shared l.invariant.live c.loop-k-test.true (task_is P l.k S c.task_of.ensures c.pick-p.ensures refl) c.part-first.ensures d in
    record { ready = a.0; laid = a.1.0; room = a.1.1 }

pub plus-reads-requires : goal.plus-reads-requires
plus-reads-requires c =
    let P : Picture = cut_out packed c.args.bytes.now c.args.tile c.args.frame c.args.table.now in
    let l = c.loop-k in
    let S : State = state_of l.r l.readers l.left (memory_of l.y l.u l.v l.columns l.modes l.strengths) in
    let d = c.token-tokens.ensures ∙ ap P.token c.pick-p.ensures in
    let n = reads_in P l.k S _ _ c.turn-m.ensures.1 (task_is P l.k S c.task_of.ensures c.pick-p.ensures refl) c.part-first.ensures d in
    let b : Bytes c.args.bytes.now = λ i. (c.shared_slice_known-1.given i).fits in
    let live = live_from c.openers-readers.ensures c.empty-left.ensures c.requires.live in
    going_able c.requires.shared l.invariant c.loop-k-test.true n
    (total_most c.requires.shared (part_bytes _ c.args.tile.first b) (λ q h. part_bytes _ (span_at_of c.args.tile q) b) live (mul-le-mul c.requires.shared.wide c.requires.shared.high))

pub returns-in_default : goal.returns-in_default
returns-in_default c =
    let P : Picture = cut_out packed c.args.bytes.now c.args.tile c.args.frame c.args.table.now in
    let l = c.loop-k in
    let S : State = state_of l.r l.readers l.left (memory_of l.y l.u l.v l.columns l.modes l.strengths) in
    let t = c.turn-m.new in
    let T : Turned = turned_of c.turn-m.result.answer c.turn-m.result.left (memory_of t.y t.u t.v t.columns t.modes t.strengths) in
    let d = c.token-tokens.ensures ∙ ap P.token c.pick-p.ensures in
    let g = task_is P l.k S c.task_of.ensures c.pick-p.ensures refl in
    let n = reads_in P l.k S _ _ c.turn-m.ensures.1 g c.part-first.ensures d in
    let e = turn_at P l.k S _ _ c.turn-m.ensures.0 g c.part-first.ensures d in
    stop_is (state_of l.r l.readers l.left T.mem) c.stop.ensures
    (going_refused c.requires.shared l.invariant c.loop-k-test.true n c.plus-reads.ensures T e (not_done c.turn-m.result.answer c.in_default.not-Ok) c.stopped.ensures)
    (λ i. total_of P (state_of c.args.tile.reader (c.openers-readers.ensures i) (c.empty-left.ensures i) (memory_of c.args.y.now c.args.u.now c.args.v.now c.args.columns.now c.args.modes.now c.args.strengths.now)))

pub offset_bounds-readers-p-in-loop-k : goal.offset_bounds-readers-p-in-loop-k
offset_bounds-readers-p-in-loop-k c = omega (arith, pick_eight (cut_out packed c.args.bytes.now c.args.tile c.args.frame c.args.table.now) c.loop-k.k c.requires.shared c.pick-p.ensures)

pub bounds-readers-p-in-loop-k : goal.bounds-readers-p-in-loop-k
bounds-readers-p-in-loop-k c = pick_eight (cut_out packed c.args.bytes.now c.args.tile c.args.frame c.args.table.now) c.loop-k.k c.requires.shared c.pick-p.ensures

pub loop-k-preserved : goal.loop-k-preserved
loop-k-preserved c =
    let P : Picture = cut_out packed c.args.bytes.now c.args.tile c.args.frame c.args.table.now in
    let l = c.loop-k in
    let S : State = state_of l.r l.readers l.left (memory_of l.y l.u l.v l.columns l.modes l.strengths) in
    let t = c.turn-m.new in
    let T : Turned = turned_of c.turn-m.result.answer c.turn-m.result.left (memory_of t.y t.u t.v t.columns t.modes t.strengths) in
    let d = c.token-tokens.ensures ∙ ap P.token c.pick-p.ensures in
    let g = task_is P l.k S c.task_of.ensures c.pick-p.ensures refl in
    let n = reads_in P l.k S _ _ c.turn-m.ensures.1 g c.part-first.ensures d in
    let e = turn_at P l.k S _ _ c.turn-m.ensures.0 g c.part-first.ensures d in
    let b : Bytes c.args.bytes.now = λ i. (c.shared_slice_known-1.given i).fits in
    going_next c.requires.shared l.invariant c.loop-k-test.true n c.plus-reads.ensures T e c.in-Ok.is
    (ends_at P S l.k c.requires.shared l.invariant.live c.loop-k-test.true (part_bytes _ c.args.tile.first b) (part_bytes _ (span_at_of c.args.tile _) b)) c.pick-p.ensures

pub returns : goal.returns
returns c =
    let P : Picture = cut_out packed c.args.bytes.now c.args.tile c.args.frame c.args.table.now in
    let l = c.loop-k in
    stop_is (state_of l.r l.readers l.left (memory_of l.y l.u l.v l.columns l.modes l.strengths)) c.stop-2.ensures (going_end l.invariant c.loop-k-test.false refl)
    (λ i. total_of P (state_of c.args.tile.reader (c.openers-readers.ensures i) (c.empty-left.ensures i) (memory_of c.args.y.now c.args.u.now c.args.v.now c.args.columns.now c.args.modes.now c.args.strengths.now)))
