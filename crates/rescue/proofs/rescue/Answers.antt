use Rattle.numbers.specs.Words.{◌≡◌, length}
use Rattle.reader.specs.ReadingLaws.{Bytes}
use Rattle.lent.specs.Memory.{Memory, memory_of, sizes_of}
use Rattle.choices.specs.Choices.{Call, call_of}
use Rattle.choices.specs.ChoicesLaws.{fine_header}
use Rattle.picture.specs.CallLaws.{shared_start}
use Rattle.rescue.specs.Rescue.{rescue_refusal_of}
use Rattle.rescue.specs.ChecksLaws.{rescue_fine}
use Rattle.rescue.specs.RescueLaws.{alive_found, rescue_named, rescue_passed, rescue_found}
use Rattle.rescue.proofs.rescue.Goals as goal
use Rattle.rescue.proofs.rescue.Goals.{After-halt-stop}

abbrev call : After-halt-stop → Call
call c = call_of c.args.bytes.now c.args.tile c.args.header.now

abbrev lent : After-halt-stop → Memory
lent c = memory_of c.args.y.now c.args.u.now c.args.v.now c.args.columns.now c.args.modes.now c.args.strengths.now

fine : (c : After-halt-stop) → rescue_refusal_of (call c) (sizes_of (lent c)) (length c.args.marks.now) ≡ 0
fine c = rescue_passed (call c) (lent c) c.args.marks.now c.in_default.ensures

bytes : (c : After-halt-stop) → Bytes c.args.bytes.now
bytes c i = (c.shared_slice_known-1.given i).fits

pub returns-in-Err : goal.returns-in-Err
returns-in-Err c =
    rescue_named (call_of c.args.bytes.now c.args.tile c.args.header.now) (memory_of c.args.y.now c.args.u.now c.args.v.now c.args.columns.now c.args.modes.now c.args.strengths.now) c.args.marks.now c.in-Err.ensures

pub rest-saved-requires : goal.rest-saved-requires
rest-saved-requires c =
    let h = (goal.at.rest-saved-requires c).After-halt-stop in
    let e = (rescue_fine (call h) (sizes_of (lent h)) _ (fine h)).0 in
    let a = alive_found (call h) (lent h) c.args.marks.now (fine h) c.halt-stop.ensures.0 (bytes h) in
    record { header_value = fine_header (call h) (sizes_of (lent h)) e; shared = shared_start (call h) (lent h) e; live = a.live; answer_bound = a.upto }

pub returns : goal.returns
returns c =
    let h = (goal.at.returns c).After-halt-stop in
    rescue_found (call h) (lent h) c.args.marks.now (fine h) c.halt-stop.ensures.0 c.rest-saved.ensures c.finished-whole.ensures c.mark.ensures
