-- Laws of wrapping: what determines the wrapped number, that it is the source's, and what a caller learns of the call's answer.
use Rattle.std.specs.Prelude.{◌≡◌, ℕ, Some, None, ℤ, pos, negsuc, ◌+ℤ◌, ◌-ℤ◌, ◌*ℤ◌, ◌≤ℤ◌}
use Rattle.std.proofs.Common.{ap, ◌∙◌, arith, lit<}
use Rattle.std.proofs.Math.Nat.{mod-add-div}
use Rattle.std.proofs.Math.IntN.{+ℤ-neg_ℤ_cancel}
use Rattle.std.specs.Int.Signed.{lt_z, shr_z, quot_z, rem_z}
use Rattle.numbers.specs.Tests.{cond_at}
use Rattle.numbers.specs.In.{In}
use Rattle.numbers.specs.Parts.{up, dn, to_le, of_le, of_eq, lt_parts, nlt_le, le_true, add_parts, sub_parts_ℤ, up_times, dn_times}
use Rattle.numbers.specs.Order.{rem_low, rem_high}
use Rattle.numbers.specs.Floor.{floor_in, floor_is}
pub use Rattle.numbers.specs.Wrap.{signed16}
use Rattle.numbers.specs.Wrap.{wrap_z, wrap16_of}

-- the rest lies in 16 bits
pub wrap_in : (v : ℤ) → In (negsuc 32767) (pos 32767) (wrap_z v)
unfolding wrap_z
wrap_in v =
    let x = v +ℤ pos 32768 in
    let m = pos 65536 *ℤ shr_z x 65536 in
    let f = floor_in 65536 x (lit< tt) in
    let a = add_parts v (pos 32768) in
    let b = sub_parts_ℤ v m in
    record { low = of_le (omega (arith, to_le f.low)); high = of_le (omega (arith, to_le f.high, add_parts m (pos 65535))) }

-- and no other number is so
pub wrap_is : {v z : ℤ} (k : ℤ) → In (negsuc 32767) (pos 32767) z → z +ℤ pos 65536 *ℤ k ≡ v → wrap_z v ≡ z
unfolding wrap_z
wrap_is {v} {z} k i e =
    let m = pos 65536 *ℤ k in
    let a = add_parts z m in
    let b = add_parts (z +ℤ m) (pos 32768) in
    let low : m ≤ℤ (z +ℤ m +ℤ pos 32768) = of_le (omega (arith, to_le i.low)) in
    let high : (z +ℤ m +ℤ pos 32768) ≤ℤ (m +ℤ pos 65535) = of_le (omega (arith, to_le i.high, add_parts m (pos 65535))) in
    let q : shr_z (z +ℤ m +ℤ pos 32768) 65536 ≡ k = floor_is 65536 (lit< tt) (record { low = low; high = high }) in
    rw (← e, q) (+ℤ-neg_ℤ_cancel z m)

-- ---- vp8_coeff's `wrapped`: signed16 of (v + 4294967296) % 65536
-- the remainder of what is not negative differs from it by a multiple
rem_parts : (m : ℕ) (a : ℤ) → pos 0 ≤ℤ a → rem_z a (pos m) +ℤ pos m *ℤ quot_z a (pos m) ≡ a
rem_parts m (pos a) h = ap pos (mod-add-div a m)
rem_parts m (negsuc a) h = absurd h.le

-- 4294967296, and 65536, put back
put_back : (r q v : ℤ) → r +ℤ pos 65536 *ℤ q ≡ v +ℤ pos 4294967296 → r +ℤ pos 65536 *ℤ (q -ℤ pos 65536) ≡ v
put_back r q v e =
    let k = q -ℤ pos 65536 in
    let a = up_times 65536 q in
    let b = dn_times 65536 q in
    let c = up_times 65536 k in
    let d = dn_times 65536 k in
    of_eq (omega (arith, ap up e, ap dn e, add_parts r (pos 65536 *ℤ q), add_parts r (pos 65536 *ℤ k), add_parts v (pos 4294967296), sub_parts_ℤ q (pos 65536)))

one_less : (r k : ℤ) → (r -ℤ pos 65536) +ℤ pos 65536 *ℤ (k +ℤ pos 1) ≡ r +ℤ pos 65536 *ℤ k
one_less r k =
    let a = up_times 65536 k in
    let b = dn_times 65536 k in
    let c = up_times 65536 (k +ℤ pos 1) in
    let d = dn_times 65536 (k +ℤ pos 1) in
    let e = sub_parts_ℤ r (pos 65536) in
    of_eq (omega (arith, add_parts k (pos 1), add_parts (r -ℤ pos 65536) (pos 65536 *ℤ (k +ℤ pos 1)), add_parts r (pos 65536 *ℤ k)))

pub wrapped_source : {v : ℤ} → In (negsuc 999999999) (pos 1000000000) v → wrap_z v ≡ signed16 (rem_z (v +ℤ pos 4294967296) (pos 65536))
wrapped_source {v} i =
    let x = v +ℤ pos 4294967296 in
    let r = rem_z x (pos 65536) in
    let n : pos 0 ≤ℤ x = of_le (omega (arith, to_le i.low, add_parts v (pos 4294967296))) in
    let k = quot_z x (pos 65536) -ℤ pos 65536 in
    let e : r +ℤ pos 65536 *ℤ k ≡ v = put_back r (quot_z x (pos 65536)) v (rem_parts 65536 x n) in
    let low = to_le (rem_low 65536 x n) in
    let high = to_le (rem_high 65536 x (lit< tt) n) in
    let s = sub_parts_ℤ r (pos 65536) in
    cond_at (lt_z r (pos 32768)) (λ (z : ℤ). wrap_z v ≡ z)
    (λ t. wrap_is k (record { low = of_le (omega arith); high = of_le (omega (arith, lt_parts r (pos 32768) t)) }) e)
    (λ t. wrap_is (k +ℤ pos 1) (record { low = of_le (omega (arith, to_le (nlt_le r (pos 32768) t))); high = of_le (omega arith) }) (one_less r k ∙ e))

-- within a thousand million the call answers the wrapped number, so a caller that matches on the answer has it and is never refused
module _ {v : ℤ} (i : In (negsuc 999999999) (pos 1000000000) v) where
  pub wrapped_good : wrap16_of v ≡ Some (wrap_z v)
  unfolding wrap16_of
  wrapped_good = rw (le_true i.low, le_true i.high)

  pub wrapped_value : {z : ℤ} → wrap16_of v ≡ Some z → z ≡ wrap_z v
  wrapped_value e = cc wrapped_good

  pub wrapped_never : wrap16_of v ≡ None → ⊥
  wrapped_never e = let z : ◌≡◌ {A = ℕ} 0 1 = cc wrapped_good in omega arith
