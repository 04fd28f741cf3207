-- Several doublings at once: the closed form of `grow`, with at most one load.
use Rattle.std.specs.Prelude.{◌+◌, ◌-◌, ◌*◌, ◌%◌, ◌^◌, ◌≤◌, ◌<◌, ◌≡◌}
use Rattle.numbers.specs.Words.{ℕ, zero, suc, add-suc, add-zero, mod-eq_of_lt, mul-one, arith, twice, doubled, doubled_less, halved, mod_scale, cases8, sym, ◌∙◌, ap, List, get_or}
use Rattle.reader.specs.Reading.{Reader, shifted, grow}
use Rattle.reader.specs.ReadingLaws.{From, grow_stop, grow_shift, grow_load}

abbrev pub shifted_by : ℕ → Reader → Reader
shifted_by k r = record { at = r.at; range = r.range * 2 ^ k; shifts = r.shifts + k; window = r.window * 2 ^ k % 65536 }

abbrev pub loaded_by : ℕ → ℕ → Reader → Reader
loaded_by b k r = record { at = r.at + 1; range = r.range * 2 ^ k; shifts = 0; window = r.window * 2 ^ k % 65536 + b }

-- a remainder taken before a sum and a product changes no remainder after them
window_full : (w b c : ℕ) → (w % 65536 + b) * c % 65536 ≡ (w * c + b * c) % 65536
window_full w b c = omega (arith, mod_scale w c 65536)

-- one doubling of the window, then k more
window_next : (w k : ℕ) → w * 2 % 65536 * 2 ^ k % 65536 ≡ w * 2 ^ suc k % 65536
window_next w k = mod_scale (w * 2) (2 ^ k) 65536 ∙ ap (λ (x : ℕ). x % 65536) (twice w k)

module _ (s : List ℕ) where
  -- k doublings that load nothing
  grow_few : (k n : ℕ) (r : Reader) → k ≤ n → 128 ≤ r.range * 2 ^ k → r.range * 2 ^ k < 256 → r.shifts + k < 8 → r.window < 65536 → grow n s r ≡ shifted_by k r
  grow_few zero n r l lo hi f w =
      let e : r.range * 2 ^ 0 ≡ r.range = mul-one r.range in
      grow_stop n s r (omega arith)
      ∙ (λ i. record { at = r.at; range = sym e i; shifts = none i; window = small i })
    where
      none : r.shifts ≡ r.shifts + 0
      none = omega arith

      small : r.window ≡ r.window * 2 ^ 0 % 65536
      small = rw (mul-one r.window) (sym (mod-eq_of_lt w))
  grow_few (suc k) zero r l lo hi f w = absurd (omega arith)
  grow_few (suc k) (suc n) r l lo hi f w =
      grow_shift n s r (halved r.range k 128 hi) (λ e. omega arith)
      ∙ grow_few k n (shifted r) (omega arith) (rw twice lo) (rw twice hi) (omega arith) (omega arith)
      ∙ (λ i. record { at = r.at; range = twice r.range k i; shifts = one_more i; window = window_next r.window k i })
    where
      one_more : r.shifts + 1 + k ≡ r.shifts + suc k
      one_more = omega arith

  -- the k doublings up to the load, the shifts before it passed over
  module _ (m : ℕ) where
    to_load : (k : ℕ) (r : Reader) → r.range * 2 ^ suc k < 256 → r.shifts + suc k ≡ 8 → grow (m + suc k) s r ≡ grow m s (loaded_by (get_or s r.at 0) (suc k) r)
    to_load zero r hi f = rw add-suc (rw add-zero (grow_load m s r (halved r.range 0 128 hi) (omega arith)))
    to_load (suc k) r hi f =
        ap (λ (j : ℕ). grow j s r) (add-suc m (suc k))
        ∙ grow_shift (m + suc k) s r (halved r.range (suc k) 128 hi) (λ e. omega arith)
        ∙ to_load k (shifted r) (rw twice hi) (omega arith)
        ∙ ap (grow m s) (λ i. record { at = r.at + 1; range = twice r.range (suc k) i; shifts = 0; window = window_next r.window (suc k) i + get_or s r.at 0 })

-- a window with its new byte is below 65536 again
full_small : (w b n : ℕ) → n < 8 → w % 2 ^ n ≡ 0 → b < 256 → w * 2 ^ (8 - n) % 65536 + b < 65536
full_small w b n =
    cases8 (λ n. w % 2 ^ n ≡ 0 → b < 256 → w * 2 ^ (8 - n) % 65536 + b < 65536)
    (λ e h. omega arith) (λ e h. omega arith) (λ e h. omega arith) (λ e h. omega arith) (λ e h. omega arith) (λ e h. omega arith) (λ e h. omega arith) (λ e h. omega arith)
    n

-- what the code computes, for k doublings that lift the range to 128 or more
module _ (s : List ℕ) (r : Reader) (k : ℕ) (f : From 1 s r) (lo : 128 ≤ r.range * 2 ^ k) (hi : r.range * 2 ^ k < 256) (h : k < 8) where
  pub fast_few : r.shifts + k < 8 → grow 7 s r ≡ shifted_by k r
  fast_few g = grow_few s k 7 r (omega arith) lo hi g f.small

  -- the doublings up to the load, and those after it
  module _ (g : 8 ≤ r.shifts + k) where
    seven : 7 ≡ 7 - (8 - r.shifts) + suc (7 - r.shifts)
    seven = omega (arith, f.few)

    up_to : 8 - r.shifts ≡ suc (7 - r.shifts)
    up_to = omega (arith, f.few)

    less : r.range * 2 ^ suc (7 - r.shifts) < 256
    less = doubled_less r.range (suc (7 - r.shifts)) k 256 (omega (arith, f.few)) hi

    -- the byte is added after all k doublings, moved by those that follow its load
    pub fast_load : get_or s r.at 0 < 256
        → grow 7 s r ≡ record { at = r.at + 1; range = r.range * 2 ^ k; shifts = r.shifts + k - 8; window = (r.window * 2 ^ k + get_or s r.at 0 * 2 ^ (r.shifts + k - 8)) % 65536 }
    fast_load y =
        ap (λ (n : ℕ). grow n s r) seven
        ∙ to_load s (7 - (8 - r.shifts)) (7 - r.shifts) r less (omega (arith, f.few))
        ∙ ap (λ (n : ℕ). grow (7 - (8 - r.shifts)) s (loaded_by (get_or s r.at 0) n r)) (sym up_to)
        ∙ grow_few s (r.shifts + k - 8) (7 - (8 - r.shifts)) (loaded_by (get_or s r.at 0) (8 - r.shifts) r) (omega (arith, f.few)) (rw e lo) (rw e hi) (omega (arith, f.few)) (full_small r.window (get_or s r.at 0) r.shifts f.few f.even y)
        ∙ (λ i. record { at = r.at + 1; range = e i; shifts = none i; window = last i })
      where
        all : 8 - r.shifts + (r.shifts + k - 8) ≡ k
        all = omega (arith, f.few)

        e : r.range * 2 ^ (8 - r.shifts) * 2 ^ (r.shifts + k - 8) ≡ r.range * 2 ^ k
        e = doubled r.range (8 - r.shifts) (r.shifts + k - 8) k all

        none : 0 + (r.shifts + k - 8) ≡ r.shifts + k - 8
        none = omega arith

        last : (r.window * 2 ^ (8 - r.shifts) % 65536 + get_or s r.at 0) * 2 ^ (r.shifts + k - 8) % 65536 ≡ (r.window * 2 ^ k + get_or s r.at 0 * 2 ^ (r.shifts + k - 8)) % 65536
        last =
            window_full (r.window * 2 ^ (8 - r.shifts)) (get_or s r.at 0) (2 ^ (r.shifts + k - 8))
            ∙ ap (λ (x : ℕ). (x + get_or s r.at 0 * 2 ^ (r.shifts + k - 8)) % 65536) (doubled r.window (8 - r.shifts) (r.shifts + k - 8) k all)
