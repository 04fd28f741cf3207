-- Request M-110, a survey over a delivery: what the record of any list of picture calls holds, said from `picture_of` and `cost_of` of the calls.
-- SurveyLaws proves all of it.
use Rattle.std.specs.Prelude.{◌+◌, ◌*◌, ◌≤◌, ◌<◌, ◌≡◌, ◌∷◌, ◌++◌}
use Rattle.numbers.specs.Words.{ℕ, bit_of, List, [], length, get_or, replicate}
use Rattle.reader.specs.Reading.{Bytes}
use Rattle.lent.specs.Memory.{Memory}
use Rattle.macroblock.specs.Macroblock.{no_reads}
use Rattle.choices.specs.Choices.{Call, number_of}
use Rattle.picture.specs.Picture.{picture_of, cost_of}
use Rattle.survey.specs.Survey.{sum_to, same, how_many, segment_at, small_at, luma_at, chroma_at, skip_at, inside_at, sub_blocks_to, total_of, added_of, count_limit, Passed, sum_of, add_of, survey_ended, survey_of}
use Rattle.promises.specs.Grey.{done}

-- ---- one call
-- THE PROMISE: 9 exactly where there are not 37 counts, and nothing has changed; else the picture call is made, its memory, k and symbols are
-- as it leaves them, and 15 is answered exactly where a count would pass 2^63-1, the record unchanged; else its own number, and what the picture
-- counts is added
pub record SurveyAnswers (c : Call) (m : Memory) (l : List ℕ) : Type 0 where
  pub room : (length l ≡ 37 → ⊥) → survey_of c m l ≡ survey_ended (record { number = 9; finished = 0; reads = no_reads }) m l
  pub full : length l ≡ 37 → Passed l (added_of c m) 37 → survey_of c m l ≡ survey_ended (record { number = 15; finished = done c m; reads = cost_of c m }) (picture_of c m).mem l
  pub added : length l ≡ 37 → ((i : ℕ) → i < 37 → get_or l i 0 + get_or (added_of c m) i 0 ≤ count_limit)
      → survey_of c m l ≡ survey_ended (record { number = number_of (picture_of c m).answer; finished = done c m; reads = cost_of c m }) (picture_of c m).mem (sum_of l (added_of c m))
  -- and the other way round
  pub room_only : (survey_of c m l).answer.number ≡ 9 → length l ≡ 37 → ⊥
  pub full_only : (survey_of c m l).answer.number ≡ 15 → (length l ≡ 37) × Passed l (added_of c m) 37

-- THE PROMISE of what one call counts: its answer once; of the macroblocks that it finished, by what their records in the mode and strength
-- memory that it left say, how many have the value x; of the small ones the sub-blocks with mode x; its symbols
pub record CallCounts (c : Call) (m : Memory) : Type 0 where
  pub answers : (x : ℕ) → x < 8 → get_or (added_of c m) x 0 ≡ same (number_of (picture_of c m).answer) x
  pub segments : (x : ℕ) → x < 4 → get_or (added_of c m) (8 + x) 0 ≡ how_many (done c m) (segment_at (picture_of c m).mem.modes) x
  pub lumas : (x : ℕ) → x < 5 → get_or (added_of c m) (12 + x) 0 ≡ how_many (done c m) (luma_at (picture_of c m).mem.modes) x
  pub chromas : (x : ℕ) → x < 4 → get_or (added_of c m) (17 + x) 0 ≡ how_many (done c m) (chroma_at (picture_of c m).mem.modes) x
  pub skips : (x : ℕ) → x < 2 → get_or (added_of c m) (21 + x) 0 ≡ how_many (done c m) (skip_at (picture_of c m).mem.modes) x
  pub insides : (x : ℕ) → x < 2 → get_or (added_of c m) (23 + x) 0 ≡ how_many (done c m) (inside_at (picture_of c m).mem.strengths) x
  pub sub_blocks_lem : (x : ℕ) → x < 10 → get_or (added_of c m) (25 + x) 0 ≡ sub_blocks_to (done c m) (picture_of c m).mem.modes x
  pub first : get_or (added_of c m) 35 0 ≡ (cost_of c m).first
  pub tokens : get_or (added_of c m) 36 0 ≡ (cost_of c m).tokens

-- THE PROMISE of an addition: 9 exactly where one has not 37 counts, 15 exactly where a sum would pass, and then the record is unchanged
pub record AddAnswers (l a : List ℕ) : Type 0 where
  pub room : (length l ≡ 37 → ⊥) → add_of l a ≡ record { number = 9; counts = l }
  pub room_other : (length a ≡ 37 → ⊥) → add_of l a ≡ record { number = 9; counts = l }
  pub full : length l ≡ 37 → length a ≡ 37 → Passed l a 37 → add_of l a ≡ record { number = 15; counts = l }
  pub added : length l ≡ 37 → length a ≡ 37 → ((i : ℕ) → i < 37 → get_or l i 0 + get_or a i 0 ≤ count_limit) → add_of l a ≡ record { number = 0; counts = sum_of l a }
  -- and the other way round
  pub room_only : (add_of l a).number ≡ 9 → length l ≡ 37 → length a ≡ 37 → ⊥
  pub full_only : (add_of l a).number ≡ 15 → (length l ≡ 37) × (length a ≡ 37) × Passed l a 37

-- ---- a delivery
-- a picture call: what it is given, what it is lent. A byte is below 256, as the call's own type says
pub record PictureCall : Type 0 where
  pub call : Call
  pub lent : Memory
  pub bytes : Bytes call.bytes

-- what one of them counts, place by place
abbrev pub counts_at : ℕ → PictureCall → ℕ
counts_at i x = get_or (added_of x.call x.lent) i 0

-- the macroblocks that it finished
abbrev pub finished_by : PictureCall → ℕ
finished_by x = done x.call x.lent

-- those of them whose modes are small, by the mode memory that it left
abbrev pub smalls_by : PictureCall → ℕ
smalls_by x = sum_to (finished_by x) (λ k. bit_of (small_at (picture_of x.call x.lent).mem.modes k))

-- the symbols that it read from the first partition (M-103)
abbrev pub first_by : PictureCall → ℕ
first_by x = (cost_of x.call x.lent).first

-- and from token partitions
abbrev pub tokens_by : PictureCall → ℕ
tokens_by x = (cost_of x.call x.lent).tokens

-- a number of each call, added up
unfoldable pub sum_over : (PictureCall → ℕ) → List PictureCall → ℕ
sum_over f [] = 0
sum_over f (x ∷ xs) = f x + sum_over f xs

-- the record that calls leave which are folded into l one after the other
unfoldable pub fold_from : List ℕ → List PictureCall → List ℕ
fold_from l [] = l
fold_from l (x ∷ xs) = fold_from (survey_of x.call x.lent l).counts xs

-- and none of them is answered 15
pub data NeverFull : List ℕ → List PictureCall → Type 0 where
  none : {l : List ℕ} → NeverFull l []
  next : {l : List ℕ} {x : PictureCall} {xs : List PictureCall} → ((survey_of x.call x.lent l).answer.number ≡ 15 → ⊥) → NeverFull (survey_of x.call x.lent l).counts xs → NeverFull l (x ∷ xs)

-- the record before the first call
abbrev pub zeros : List ℕ
zeros = replicate 37 0

-- the record of a delivery
abbrev pub record_of_of : List PictureCall → List ℕ
record_of_of xs = fold_from zeros xs

-- THE PROMISE, 15 never given: the table of answers adds up to the calls; those by segment, luma mode, chroma mode, skip and inside byte each to
-- the macroblocks that the calls finished; the sub-blocks to sixteen times the small ones, which also stand behind the large modes; the symbols
-- are those that the calls report. And each place holds what the calls count there
pub record Totals (xs : List PictureCall) : Type 0 where
  pub answers : total_of 0 8 (record_of_of xs) ≡ length xs
  pub segments : total_of 8 4 (record_of_of xs) ≡ sum_over finished_by xs
  pub lumas : total_of 12 5 (record_of_of xs) ≡ sum_over finished_by xs
  pub chromas : total_of 17 4 (record_of_of xs) ≡ sum_over finished_by xs
  pub skips : total_of 21 2 (record_of_of xs) ≡ sum_over finished_by xs
  pub insides : total_of 23 2 (record_of_of xs) ≡ sum_over finished_by xs
  pub sub_blocks_lem : total_of 25 10 (record_of_of xs) ≡ 16 * sum_over smalls_by xs
  pub small : get_or (record_of_of xs) 16 0 ≡ sum_over smalls_by xs
  pub first : get_or (record_of_of xs) 35 0 ≡ sum_over first_by xs
  pub tokens : get_or (record_of_of xs) 36 0 ≡ sum_over tokens_by xs
  pub long : length (record_of_of xs) ≡ 37
  pub each : (i : ℕ) → i < 37 → get_or (record_of_of xs) i 0 ≡ sum_over (counts_at i) xs

-- THE PROMISE: 15 is never given exactly where nothing adds up to more than 2^63-1
pub record FullExactly (xs : List PictureCall) : Type 0 where
  pub never : ((i : ℕ) → i < 37 → sum_over (counts_at i) xs ≤ count_limit) → NeverFull zeros xs
  pub only : NeverFull zeros xs → (i : ℕ) → i < 37 → sum_over (counts_at i) xs ≤ count_limit

-- THE PROMISE: two deliveries folded and added are the record of their join. 15 is never given in the join exactly where it is given neither in
-- the two nor in the addition
pub record Joins (xs ys : List PictureCall) : Type 0 where
  pub joined : NeverFull zeros (xs ++ ys) → add_of (record_of_of xs) (record_of_of ys) ≡ record { number = 0; counts = record_of_of (xs ++ ys) }
  pub parts : NeverFull zeros (xs ++ ys) → NeverFull zeros xs × NeverFull zeros ys
  pub never : NeverFull zeros xs → NeverFull zeros ys → ((add_of (record_of_of xs) (record_of_of ys)).number ≡ 15 → ⊥) → NeverFull zeros (xs ++ ys)

-- the same calls in another order
pub data Reordered : List PictureCall → List PictureCall → Type 0 where
  nothing : Reordered [] []
  kept : {x : PictureCall} {xs ys : List PictureCall} → Reordered xs ys → Reordered (x ∷ xs) (x ∷ ys)
  swapped : {x y : PictureCall} {xs : List PictureCall} → Reordered (x ∷ y ∷ xs) (y ∷ x ∷ xs)
  twice : {xs ys zs : List PictureCall} → Reordered xs ys → Reordered ys zs → Reordered xs zs

-- THE PROMISE: the order of the calls does not matter
pub record SameRecord (xs ys : List PictureCall) : Type 0 where
  pub never : NeverFull zeros xs → NeverFull zeros ys
  pub same : NeverFull zeros xs → record_of_of xs ≡ record_of_of ys
