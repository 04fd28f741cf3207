-- The laws of the walk of coeff_tree: what the code and the callers of `walk_token` cite.
use Rattle.std.specs.Prelude.{◌+◌, ◌-◌, ◌≤◌, ◌<◌, ◌≡◌}
use Rattle.numbers.specs.Words.{ℕ, arith, refl, sym, ◌∙◌, ap, Bool, true, false, ⊎_elim, ltb, lit<, lit≤, lt_or, both_true, le-leb, List, length, get_or, take, drop, get_or-eq_default, length-drop, length-take, get_or-drop, get_or-take, length-take-le}
use Rattle.reader.specs.Reading.{Reader, ReadOf, run, Within}
use Rattle.reader.specs.ReadingLaws.{Bytes, Valid, valid_test, from_read, from_read_lem}
use Rattle.reader.specs.Token.{token_tree, token_start, token, eleven_at, token_of, token_answer}
use Rattle.reader.specs.Trees.{tree_of}
use Rattle.reader.specs.TreesLaws.{leaves_reached, tree_fixed, walk_below}

pub eleven_at_lem : (table : List ℕ) (at i : ℕ) → i < 11 → get_or (eleven_at table at) i 0 ≡ get_or table (at + i) 0
unfolding eleven_at
eleven_at_lem table at i h = rw (get_or-take 11 (drop at table) i 0 h, get_or-drop at table i 0)

length_eleven : (table : List ℕ) (at : ℕ) → at + 11 ≤ length table → length (eleven_at table at) ≡ 11
unfolding eleven_at
length_eleven table at h = length-take-le 11 (drop at table) (rw length-drop (omega arith))

pub eleven_tree : (table : List ℕ) (at : ℕ) (z : Bool) → at + 11 ≤ length table → tree_of (eleven_at table at) token_tree (token_start z) ≡ true
eleven_tree table at true h = tree_fixed (eleven_at table at) token_tree 1 (rw (length_eleven table at h) (lit≤ tt)) refl
eleven_tree table at false h = tree_fixed (eleven_at table at) token_tree 0 (rw (length_eleven table at h) (lit≤ tt)) refl

-- the eleven as a part of the table, from k up to m
pub eleven_part : (table : List ℕ) (k m : ℕ) → m ≡ k + 11 → take (m - k) (drop k table) ≡ eleven_at table k
unfolding eleven_at
eleven_part table k m h = let d : m - k ≡ 11 = omega arith in rw d

-- ---- what the grammar gives, and how much it asks
-- seven symbols at most, and a token 0..11
token_reach : (z : Bool) → leaves_reached 7 (λ t. ltb t 12) token_tree (token_start z) ≡ true
token_reach true = refl
token_reach false = refl

pub token_within : (ps : List ℕ) (z : Bool) → Bytes ps → Within (λ t. t < 12) 7 (token ps z)
token_within ps z y = walk_below 7 32 12 ps token_tree (token_start z) (lit≤ tt) y (token_reach z)

pub eleven_bytes : (table : List ℕ) (at : ℕ) → Bytes table → Bytes (eleven_at table at)
unfolding eleven_at
eleven_bytes table at y i =
    ⊎_elim
    (λ (h : i < 11). rw (eleven_at_lem table at i h) (y (at + i)))
    (λ (h : 11 ≤ i). rw (get_or-eq_default (take 11 (drop at table)) 0 {n = i} (simp length-take (omega arith))) (lit< tt))
    (lt_or i 11)

pub token_fits : (table : List ℕ) (at : ℕ) (z : Bool) → Bytes table → Within (λ t. t < 12) 7 (token (eleven_at table at) z)
token_fits table at z y = token_within (eleven_at table at) z (eleven_bytes table at y)

-- ---- the public call
pub token_gives : (s ps : List ℕ) (z : Bool) (r : Reader) {x : ReadOf ℕ} → x ≡ token_of s ps z r → run (token ps z) s r ≡ from_read x
unfolding token_of
token_gives s ps z r e = from_read_lem (run (token ps z) s r) ∙ ap from_read (sym e)

module _ (s table : List ℕ) (at : ℕ) (z : Bool) (r : Reader) where
  pub token_good : Valid s r → at + 11 ≤ length table → token_answer s table at z r ≡ token_of s (eleven_at table at) z r
  unfolding token_answer
  token_good v l = rw (both_true (valid_test s r v) (le-leb _ _ l), token_answer)

  -- THE LAW for callers of `walk_token`
  pub tokened : Valid s r → at + 11 ≤ length table → {x : ReadOf ℕ} → x ≡ token_answer s table at z r → run (token (eleven_at table at) z) s r ≡ from_read x
  tokened v l e = token_gives s (eleven_at table at) z r (e ∙ token_good v l)
