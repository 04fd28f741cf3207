-- The bytes of the frame that is written: its head, and where its two partitions lie.
use Rattle.std.specs.Prelude.{◌+◌, ◌-◌, ◌*◌, ◌/◌, ◌%◌, ◌≤◌, ◌<◌, ◌≡◌, ◌++◌}
use Rattle.numbers.specs.Words.{ℕ, suc, arith, sym, ◌∙◌, ap, List, [], append_assoc, append-nil, length, get_or, take, drop, get_or-append, length-append, length-drop, drop-append_seam, get_or-drop, get_or-take, length-take-le, take-append_seam}
use Rattle.tile.specs.Tile.{contents_of}
use Rattle.frame.specs.Tag.{three_at, tag_of}
use Rattle.frame.specs.OneLaws.{Retagged}
use Rattle.recode_frame.specs.RecodeFrame.{three_bytes, new_head}

-- what lies between two lists
pub contents_between : (xs ys zs : List ℕ) {n : ℕ} → length xs ≡ n → contents_of (xs ++ (ys ++ zs)) (record { start = n; len = length ys }) ≡ ys
unfolding contents_of
contents_between xs ys zs e =
    ap (λ (k : ℕ). take (length ys) (drop k (xs ++ (ys ++ zs)))) (sym e) ∙ ap (take (length ys)) (drop-append_seam xs (ys ++ zs)) ∙ take-append_seam ys zs

three_back : (x : ℕ) → x < 16777216 → x % 256 + 256 * (x / 256 % 256) + 65536 * (x / 65536 % 256) ≡ x
three_back x h =
    let p : x / 256 % 256 + 256 * (x / 65536) ≡ x / 256 = omega arith in
    omega (arith, p)

module _ (b : List ℕ) (n : ℕ) (rest : List ℕ) where
  pub head_tag : n ≤ 524287 → tag_of (new_head b n ++ rest) ≡ tag_of b % 32 + 32 * n
  unfolding three_at
  head_tag h = three_back (tag_of b % 32 + 32 * n) (omega arith)

  -- start code and sizes
  module _ (l : 10 ≤ length b) where
    seven : length (take 7 (drop 3 b)) ≡ 7
    seven = length-take-le 7 (drop 3 b) (rw length-drop (omega arith))

    pub head_long : length (new_head b n) ≡ 10
    head_long = omega (arith, seven)

    pub head_same : (i : ℕ) → 3 ≤ i → i < 10 → get_or b i 0 ≡ get_or (new_head b n ++ rest) i 0
    head_same i h k = ap (λ (j : ℕ). get_or b j 0) {x = i} {y = 3 + (i - 3)} (omega arith) ∙ kept (i - 3) (omega arith) ∙ ap (λ (j : ℕ). get_or (new_head b n ++ rest) j 0) {x = suc (suc (suc (i - 3)))} {y = i} (omega arith)
      where
        kept : (j : ℕ) → j < 7 → get_or b (3 + j) 0 ≡ get_or (new_head b n ++ rest) (suc (suc (suc j))) 0
        kept j q = sym (get_or-append (take 7 (drop 3 b)) rest 0 j (rw seven q) ∙ get_or-take 7 (drop 3 b) j 0 q ∙ get_or-drop 3 b j 0)

-- ---- the frame
module _ (b first tokens : List ℕ) (l : 10 ≤ length b) where
  abbrev whole : List ℕ
  whole = new_head b (length first) ++ (first ++ tokens)

  pub whole_long : length whole ≡ 10 + length first + length tokens
  whole_long = length-append (new_head b (length first)) (first ++ tokens) ∙ omega (arith, head_long b (length first) [] l, length-append first tokens)

  pub whole_retagged : length first ≤ 524287 → Retagged (length first) b whole
  whole_retagged h = record { tag = head_tag b (length first) (first ++ tokens) h; same = head_same b (length first) (first ++ tokens) l; long = omega (arith, whole_long) }

  pub whole_first : contents_of whole (record { start = 10; len = length first }) ≡ first
  whole_first = contents_between (new_head b (length first)) first tokens (head_long b (length first) [] l)

  pub whole_tokens : contents_of whole (record { start = 10 + length first; len = length tokens }) ≡ tokens
  whole_tokens =
      ap (λ (x : List ℕ). contents_of x (record { start = 10 + length first; len = length tokens }))
      (sym (append_assoc (new_head b (length first)) first tokens) ∙ ap (λ (x : List ℕ). (new_head b (length first) ++ first) ++ x) (sym (append-nil tokens)))
      ∙ contents_between (new_head b (length first) ++ first) tokens [] (length-append (new_head b (length first)) first ∙ omega (arith, head_long b (length first) [] l))

-- a head made of one that was made so
pub head_again : (b : List ℕ) (n : ℕ) (rest : List ℕ) → 10 ≤ length b → n ≤ 524287 → new_head (new_head b n ++ rest) n ≡ new_head b n
head_again b n rest l h =
    (λ i. three_bytes (low i) ++ take 7 (take 7 (drop 3 b) ++ rest))
    ∙ ap (λ (x : List ℕ). three_bytes (tag_of b % 32 + 32 * n) ++ x) (ap (λ (k : ℕ). take k (take 7 (drop 3 b) ++ rest)) (sym (seven b n rest l)) ∙ take-append_seam (take 7 (drop 3 b)) rest)
  where
    low : tag_of (new_head b n ++ rest) % 32 + 32 * n ≡ tag_of b % 32 + 32 * n
    low = ap (λ (x : ℕ). x % 32 + 32 * n) (head_tag b n rest h) ∙ omega arith
