use Rattle.numbers.specs.Words.{ℕ, ◌*◌, ◌%◌, ◌^◌, arith, ◌≡◌, ◌∙◌, ap}
use Rattle.wide.specs.WideLaws.{wrapped32}
use Rattle.wide.specs.Wide.{less32, doublings_of}
use Rattle.wide.proofs.wide.lifted.Goals as goal

pub returns : goal.returns
returns c =
    let k : ℕ = c.doublings-k.result in
    let ek : k ≡ doublings_of c.args.range = c.doublings-k.ensures.0 in
    let et : c.wrapping_sub_u32.result ≡ less32 (c.args.range * 2 ^ (k % 32) % 2 ^ 32) 1 = wrapped32 _ _ _ (omega arith) (omega arith) c.wrapping_sub_u32.ensures.value in
    let ec : c.wrapping_sub_u32-2.result ≡ less32 c.args.w.count k = wrapped32 _ _ _ (omega arith) (omega (arith, c.doublings-k.ensures.1)) c.wrapping_sub_u32-2.ensures.value in
    (λ i. record { at = c.args.w.at; value = c.args.value * 2 ^ ek i % 2 ^ 64; top = (et ∙ ap (λ (n : ℕ). less32 (c.args.range * 2 ^ (n % 32) % 2 ^ 32) 1) ek) i; count = (ec ∙ ap (less32 c.args.w.count) ek) i })
