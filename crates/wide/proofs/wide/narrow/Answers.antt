use Rattle.numbers.specs.Words.{ℕ, ◌+◌, ◌*◌, ◌/◌, ◌%◌, ◌^◌, arith, ◌≡◌, ◌∙◌, ap}
use Rattle.wide.specs.WideLaws.{wrapped64}
use Rattle.wide.specs.Wide.{Wide, narrow_of, less64, back_of, shifts_of, fill_of}
use Rattle.wide.proofs.wide.narrow.Goals as goal

pub returns : goal.returns
unfolding narrow_of
returns c =
    let ea : c.wrapping_sub_usize.result ≡ less64 ((c.args.w.at + 2) % 2 ^ 64) (back_of c.args.w.count) =
    wrapped64 _ _ _ (omega arith) (omega (arith, c.back.ensures)) (omega (arith, c.wrapping_sub_usize.ensures.value, c.back.ensures, c.wrapping_add_usize.ensures.value)) in
    let ew : c.floored.result ≡ (fill_of c.args.s.now c.args.w).value / 2 ^ 48 / 2 ^ shifts_of c.args.w.count * 2 ^ shifts_of c.args.w.count =
    c.floored.ensures
    ∙ ap (λ (n : ℕ). n / 2 ^ shifts_of c.args.w.count * 2 ^ shifts_of c.args.w.count) (c.sixteen.ensures.0 ∙ ap (λ (q : Wide). q.value / 2 ^ 48) c.fill-full.ensures) in
    (λ i. record { at = ea i; range = c.args.w.top % 256 + 1; shifts = shifts_of c.args.w.count; window = ew i })
