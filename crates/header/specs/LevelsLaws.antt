-- The laws of filter levels: the range, and the answer with good arguments.
use Rattle.std.specs.Prelude.{◌+◌, ◌≤◌, ◌<◌, ◌≡◌, ◌&&◌, ◌+ℤ◌}
use Rattle.numbers.specs.Words.{ℕ, Some, None, Bool, true, false, ltb, both_true, both_false, le-ltb, lt-ltb, List, ℤ, pos, negsuc, In, Each, In_wider, num, plainly, know_add, inside, up_to, up_to_le}
use Rattle.header.specs.Header.{segment_level, frame_level, deltas_on, intra_delta, small_delta, present_at_of, header_of}
use Rattle.header.specs.Own.{segmented_of}
use Rattle.header.specs.Levels.{level_deltas, delta_of, level_of_of, level_answer}

pub level_in : (h : List ℤ) (segment : ℕ) (small : Bool) → level_of_of h segment small ≤ 63
unfolding level_of_of
level_in h segment small = up_to_le 63 (pos (up_to 63 (segmented_of h frame_level (segment_level + segment))) +ℤ delta_of h small)

pub level_is : (h : List ℤ) (segment : ℕ) (small : Bool) {n : ℕ} {d : ℤ} → n ≡ up_to 63 (segmented_of h frame_level (segment_level + segment)) → d ≡ delta_of h small → up_to 63 (pos n +ℤ d) ≡ level_of_of h segment small
unfolding level_of_of
level_is h segment small e f = rw (e, f)

module _ (h : List ℤ) (small : Bool) where
  pub delta_off : present_at_of h deltas_on ≡ false → delta_of h small ≡ pos 0
  unfolding delta_of
  delta_off e = rw (e, delta_of)

  pub delta_on : present_at_of h deltas_on ≡ true → delta_of h small ≡ level_deltas h small
  unfolding delta_of
  delta_on e = rw (e, delta_of)

module _ (h : List ℤ) (segment : ℕ) (small : Bool) where
  pub level_good : header_of h ≡ true → segment < 4 → level_answer h segment small ≡ Some (level_of_of h segment small)
  unfolding level_answer
  level_good e l = rw (both_true e (lt-ltb _ _ l), level_answer)

  refused : header_of h && ltb segment 4 ≡ false → None ≡ level_answer h segment small
  unfolding level_answer
  refused e = rw (e, level_answer)

  pub level_header : header_of h ≡ false → None ≡ level_answer h segment small
  level_header e = refused (rw e)

  pub level_none : 4 ≤ segment → None ≡ level_answer h segment small
  level_none l = refused (both_false (header_of h) (le-ltb _ _ l))

-- what the deltas add stays small
pub delta_in : (h : List ℤ) (small : Bool) → Each (negsuc 254) (pos 255) h → In (negsuc 509) (pos 510) (delta_of h small)
unfolding delta_of
delta_in h small e = go (present_at_of h deltas_on) small
  where
    go : (on small : Bool) → In (negsuc 509) (pos 510) (elim on [ true ↦ level_deltas h small | false ↦ pos 0 ])
    go true true = In_wider (inside (know_add (plainly (e.at intra_delta)) (plainly (e.at small_delta)))) tt
    go true false = In_wider (e.at intra_delta) tt
    go false s = In_wider (inside (num (pos 0))) tt
