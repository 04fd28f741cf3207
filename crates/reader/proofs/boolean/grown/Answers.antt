use Rattle.numbers.specs.Words.{◌+◌, ◌-◌, ◌*◌, ◌%◌, ◌^◌, arith, sym, ◌∙◌, ap, Ok}
use Rattle.reader.specs.Reading.{Reader}
use Rattle.reader.specs.ReadingLaws.{grow_stop}
use Rattle.reader.specs.BooleanFast.{fast_few, fast_load}
use Rattle.reader.proofs.boolean.grown.Goals as goal
use Rattle.reader.proofs.boolean.grown.Goals.{then-n-ge8, else-n-ge8}

pub returns-then-range-ge128 : goal.returns-then-range-ge128
returns-then-range-ge128 c = ap (λ (q : Reader). Ok (c.args.bit, q)) (sym (grow_stop 7 c.args.s.now c.args.r c.if-range-ge128.true))

pub returns : goal.returns
returns c =
    let a = c.args in
    let k = c.doublings-k in
    let e = c.times-wider.ensures.0 in
    ap (λ (q : Reader). Ok (a.bit, q))
    (elim c.if-n-ge8.branch [
      | then-n-ge8 w ↦
          (λ i. record { at = w.place-is i; range = e i; shifts = w.left-is i; window = (w.full-is ∙ ap (λ x. x + w.times.result) c.times-moved.ensures.0 ∙ ap (λ x. a.r.window * 2 ^ k.result + x) (w.times.ensures.0 ∙ ap (λ x. x * 2 ^ (a.r.shifts + k.result - 8)) w.byte_at.ensures.0)) i % 65536 })
          ∙ sym (fast_load a.s.now a.r k.result c.requires k.ensures.1 k.ensures.2 k.ensures.0 w.if-n-ge8.true (omega (arith, w.byte_at.ensures)))
      | else-n-ge8 w ↦
          (λ i. record { at = w.place-is i; range = e i; shifts = w.left-is i; window = (w.full-is ∙ c.times-moved.ensures.0) i % 65536 })
          ∙ sym (fast_few a.s.now a.r k.result c.requires k.ensures.1 k.ensures.2 k.ensures.0 w.if-n-ge8.false)
    ])
