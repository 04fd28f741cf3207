-- The laws of sums and hashes: one byte more, the bound of a sum, and the product of the hash in halves of 32 bits.
use Rattle.std.specs.Prelude.{◌+◌, ◌*◌, ◌/◌, ◌%◌, ◌<◌, ◌≡◌}
use Rattle.numbers.specs.Words.{ℕ, add-one, div-add-mod', mod-eq_of_lt, mod-lt, mul-add-mod_self_left, arith, refl, sym, ◌∙◌, ap, lit<, List, length, get_or}
use Rattle.casefile.specs.Measures.{sum_to, sum_of, fnv_step, fnv_to, fnv_of}

module _ (l : List ℕ) where
  pub sum_none : 0 ≡ sum_to l 0
  unfolding sum_to
  sum_none = refl

  pub sum_next : (i : ℕ) → sum_to l (i + 1) ≡ sum_to l i + get_or l i 0
  unfolding sum_to
  sum_next i = rw (add-one i)

  pub fnv_none : 14695981039346656037 ≡ fnv_to l 0
  unfolding fnv_to
  fnv_none = refl

  fnv_next : (i : ℕ) → fnv_to l (i + 1) ≡ fnv_step (fnv_to l i) (get_or l i 0)
  unfolding fnv_to
  fnv_next i = rw (add-one i)

  pub fnv_more : (i : ℕ) {h r : ℕ} → h ≡ fnv_to l i → r ≡ fnv_step h (get_or l i 0) → r ≡ fnv_to l (i + 1)
  fnv_more i e f = f ∙ ap (λ (x : ℕ). fnv_step x (get_or l i 0)) e ∙ sym (fnv_next i)

  pub sum_all : {s i : ℕ} → s ≡ sum_to l i → i ≡ length l → s ≡ sum_of l
  unfolding sum_of
  sum_all e f = rw (e, f)

  pub fnv_all : {h i : ℕ} → h ≡ fnv_to l i → i ≡ length l → h ≡ fnv_of l
  unfolding fnv_of
  fnv_all e f = rw (e, f)

-- ---- x times 2^40 + 435 modulo 2^64, in halves of 32 bits
-- high and low are the halves of x, carry and m those of low * 435, over and above those of the upper sum
halves : (x high low carry m over above : ℕ) → x ≡ high * 4294967296 + low → low * 435 ≡ carry * 4294967296 + m → high * 435 + carry + low * 256 ≡ over * 4294967296 + above → x * 1099511628211 ≡ 18446744073709551616 * (over + 256 * high) + (above * 4294967296 + m)
halves x high low carry m over above e f g = omega arith

pub in_halves : (x : ℕ) → (x / 4294967296 * 435 + x % 4294967296 * 435 / 4294967296 + x % 4294967296 * 256) % 4294967296 * 4294967296 + x % 4294967296 * 435 % 4294967296 ≡ x * 1099511628211 % 18446744073709551616
in_halves x =
    let high = x / 4294967296 in
    let low = x % 4294967296 in
    let t = high * 435 + low * 435 / 4294967296 + low * 256 in
    let a : t % 4294967296 < 4294967296 = mod-lt t (lit< tt) in
    let b : low * 435 % 4294967296 < 4294967296 = mod-lt (low * 435) (lit< tt) in
    let e = halves x high low (low * 435 / 4294967296) (low * 435 % 4294967296) (t / 4294967296) (t % 4294967296) (sym (div-add-mod' x 4294967296)) (sym (div-add-mod' (low * 435) 4294967296)) (sym (div-add-mod' t 4294967296)) in
    sym (ap (λ (n : ℕ). n % 18446744073709551616) e ∙ mul-add-mod_self_left 18446744073709551616 (t / 4294967296 + 256 * high) (t % 4294967296 * 4294967296 + low * 435 % 4294967296) ∙ mod-eq_of_lt (omega (arith, a, b)))
