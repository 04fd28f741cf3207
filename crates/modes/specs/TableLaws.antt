-- The table of small modes' probabilities: the code's is the RFC's with both modes renumbered, and each entry is in 1..255.
use Rattle.std.specs.Prelude.{◌+◌, ◌-◌, ◌*◌, ◌/◌, ◌%◌, ◌≤◌, ◌<◌, ◌≡◌, ◌&&◌}
use Rattle.numbers.specs.Words.{ℕ, arith, refl, sym, ◌∙◌, ap, true, ⊎_elim, ltb, leb, lit<, lt_or, both_left, both_right, leb-true, ltb-true, List, length, get_or, take, drop, get_or-eq_default, length-drop, ext_get_or, get_or-drop, get_or-take, length-take-le, length_build, get_or_build, built, all_of, permuted, all_of_lem, all_of_any, permuted_at}
use Rattle.reader.specs.ReadingLaws.{Bytes}
use Rattle.modes.specs.Table.{rfc_numbers, rfc_of, rfc_place, rfc_table, probabilities, renumbered_table}

rfc_length : length rfc_table ≡ 900
unfolding rfc_table
rfc_length = refl

-- each entry is in 1..255
rfc_entries : all_of (λ x. leb 1 x && ltb x 256) rfc_table ≡ true
unfolding rfc_table
rfc_entries = refl

-- a mode's RFC number is a mode's number
rfc_mode : (m : ℕ) → rfc_of m < 10
rfc_mode m = ltb-true (rfc_of m) 10 (all_of_any (λ x. ltb x 10) rfc_numbers 0 refl refl m)

abbrev at : ℕ → ℕ → ℕ
at above left = (above * 10 + left) * 9

entry_in : (i : ℕ) → i < 900 → (1 ≤ get_or rfc_table i 0) × (get_or rfc_table i 0 < 256)
entry_in i h =
    let e = all_of_lem (λ x. leb 1 x && ltb x 256) rfc_table 0 rfc_entries i (rw rfc_length h) in
    (leb-true 1 (get_or rfc_table i 0) (both_left _ _ e), ltb-true (get_or rfc_table i 0) 256 (both_right (leb 1 (get_or rfc_table i 0)) _ e))

-- one test finds the code's table to be the RFC's with both modes renumbered
pub table_is : (t : List ℕ) → permuted t rfc_table rfc_place ≡ true → length t ≡ 900 → t ≡ renumbered_table
unfolding renumbered_table
table_is t e n = built t 900 (λ i. get_or rfc_table (rfc_place i) 0) 0 n (λ i h. permuted_at t rfc_table rfc_place e i (rw n h))

pub table_long : {t : List ℕ} → t ≡ renumbered_table → length t ≡ 900
unfolding renumbered_table
table_long e = ap length e ∙ length_build {A = ℕ} 900 (λ i. get_or rfc_table (rfc_place i) 0)

module _ (above left : ℕ) where
  pub probabilities_length : length (probabilities above left) ≡ 9
  unfolding probabilities
  probabilities_length =
      length-take-le 9 (drop (at (rfc_of above) (rfc_of left)) rfc_table) (rw (length-drop, rfc_length) (omega (arith, rfc_mode above, rfc_mode left)))

  probabilities_at_lem : (j : ℕ) → j < 9 → get_or (probabilities above left) j 0 ≡ get_or rfc_table (at (rfc_of above) (rfc_of left) + j) 0
  unfolding probabilities
  probabilities_at_lem j h = rw (get_or-take, get_or-drop)

  pub probabilities_in : (j : ℕ) → j < 9 → (1 ≤ get_or (probabilities above left) j 0) × (get_or (probabilities above left) j 0 < 256)
  probabilities_in j h = rw (probabilities_at_lem j h) (entry_in (at (rfc_of above) (rfc_of left) + j) (omega (arith, rfc_mode above, rfc_mode left)))

  pub probabilities_bytes : Bytes (probabilities above left)
  probabilities_bytes i = ⊎_elim
      (λ (h : i < 9). (probabilities_in i h).1)
      (λ (h : 9 ≤ i). rw (get_or-eq_default (probabilities above left) 0 {n = i} (rw probabilities_length h)) (lit< tt))
      (lt_or i 9)

  nine_are : above < 10 → left < 10 → take 9 (drop (at above left) renumbered_table) ≡ probabilities above left
  unfolding renumbered_table
  nine_are a l =
      ext_get_or 0 (take 9 (drop (at above left) renumbered_table)) (probabilities above left) (long ∙ sym probabilities_length) (λ j h. same j (rw long at h))
    where
      long : length (take 9 (drop (at above left) renumbered_table)) ≡ 9
      long = length-take-le 9 (drop (at above left) renumbered_table) (rw (length-drop, table_long refl) (omega arith))

      place : (j : ℕ) → j < 9 → rfc_place (at above left + j) ≡ at (rfc_of above) (rfc_of left) + j
      place j h =
          let p : (at above left + j) / 90 ≡ above = omega arith in
          let q : (at above left + j) / 9 % 10 ≡ left = omega arith in
          let k : (at above left + j) % 9 ≡ j = omega arith in
          rw (p, q, k)

      same : (j : ℕ) → j < 9 → get_or (take 9 (drop (at above left) renumbered_table)) j 0 ≡ get_or (probabilities above left) j 0
      same j h =
          rw (get_or-take 9 (drop (at above left) renumbered_table) j 0 h, get_or-drop (at above left) renumbered_table j 0)
          (get_or_build 900 (λ i. get_or rfc_table (rfc_place i) 0) (at above left + j) 0 (omega arith) ∙ ap (λ (k : ℕ). get_or rfc_table k 0) (place j h) ∙ sym (probabilities_at_lem j h))

  -- THE LAW of the code's table: its nine numbers for two modes, from k up to m, are the RFC's for them
  pub part_is : {t : List ℕ} → t ≡ renumbered_table → above < 10 → left < 10 → (k m : ℕ) → k ≡ at above left → m ≡ k + 9 → take (m - k) (drop k t) ≡ probabilities above left
  part_is {t} e a l k m h g = let d : m - k ≡ 9 = omega arith in rw (d, h, e) (nine_are a l)
