use Rattle.numbers.specs.Words.{sym, ◌∙◌, ap, ap₂, refl}
use Rattle.coefficients.specs.BlockSteps.{table_done}
use Rattle.header.specs.FrameLaws.{frame_good}
use Rattle.lent.specs.Memory.{memory_of, sizes_of}
use Rattle.choices.specs.Choices.{call_of}
use Rattle.choices.specs.ChoicesLaws.{checks_passed, fine_header, fine_lengths, check_fails, check_named}
use Rattle.picture.specs.CallLaws.{shared_found, live_found}
use Rattle.picture.specs.HaltLaws.{halted_refused, halted_found}
use Rattle.picture.specs.CountsLaws.{cost_bad, cost_found}
use Rattle.picture.proofs.halt.Goals as goal

pub returns-in-Err : goal.returns-in-Err
returns-in-Err c =
    let t = call_of c.args.bytes.now c.args.tile c.args.header.now in
    let m = memory_of c.args.y.now c.args.u.now c.args.v.now c.args.columns.now c.args.modes.now c.args.strengths.now in
    halted_refused t m c.in-Err.ensures c.refused.ensures

pub unwrap-numbers-requires : goal.unwrap-numbers-requires
unwrap-numbers-requires c =
    let t = call_of c.args.bytes.now c.args.tile c.args.header.now in
    let m = memory_of c.args.y.now c.args.u.now c.args.v.now c.args.columns.now c.args.modes.now c.args.strengths.now in
    rw (c.probabilities.ensures ∙ sym (table_done _ (fine_lengths t (sizes_of m) (checks_passed t (sizes_of m) c.in_default.ensures)).header refl))

pub unwrap-frame-requires : goal.unwrap-frame-requires
unwrap-frame-requires c =
    let t = call_of c.args.bytes.now c.args.tile c.args.header.now in
    let m = memory_of c.args.y.now c.args.u.now c.args.v.now c.args.columns.now c.args.modes.now c.args.strengths.now in
    rw (c.take.ensures ∙ frame_good _ (fine_header t (sizes_of m) (checks_passed t (sizes_of m) c.in_default.ensures)))

pub rows-requires-clause-shared : goal.rows-requires-clause-shared
rows-requires-clause-shared c =
    let t = call_of c.args.bytes.now c.args.tile c.args.header.now in
    let m = memory_of c.args.y.now c.args.u.now c.args.v.now c.args.columns.now c.args.modes.now c.args.strengths.now in
    shared_found t m (checks_passed t (sizes_of m) c.in_default.ensures) (sym c.unwrap-frame.ensures ∙ c.take.ensures) (sym c.unwrap-numbers.ensures ∙ c.probabilities.ensures) c.blank.ensures

pub rows-requires-clause-live : goal.rows-requires-clause-live
rows-requires-clause-live c =
    let t = call_of c.args.bytes.now c.args.tile c.args.header.now in
    let m = memory_of c.args.y.now c.args.u.now c.args.v.now c.args.columns.now c.args.modes.now c.args.strengths.now in
    live_found t m (checks_passed t (sizes_of m) c.in_default.ensures) (sym c.unwrap-frame.ensures ∙ c.take.ensures) (sym c.unwrap-numbers.ensures ∙ c.probabilities.ensures) c.blank.ensures (λ i. (c.type_inv.bytes i).fits)

pub returns : goal.returns
returns c =
    let t = call_of c.args.bytes.now c.args.tile c.args.header.now in
    let m = memory_of c.args.y.now c.args.u.now c.args.v.now c.args.columns.now c.args.modes.now c.args.strengths.now in
    let e = checks_passed t (sizes_of m) c.in_default.ensures in (
      halted_found t m e (sym c.unwrap-frame.ensures ∙ c.take.ensures) (sym c.unwrap-numbers.ensures ∙ c.probabilities.ensures) c.blank.ensures c.rows.ensures.0,
      cost_found t m e (sym c.unwrap-frame.ensures ∙ c.take.ensures) (sym c.unwrap-numbers.ensures ∙ c.probabilities.ensures) c.blank.ensures c.rows.ensures.1,
    )
