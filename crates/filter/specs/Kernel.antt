-- The loop filter's kernel, RFC 6386, sections 15.2, 4852-5016, and 15.3, 5069-5275: what eight samples across an edge become. It is in two
-- steps: `rule_of` says which rule acts and why, and `steps_of` what that rule adds to each sample before the sum is clipped to a byte.
use Rattle.std.specs.Prelude.{◌+◌, ◌*◌, ◌<◌, ◌||◌, ◌∷◌, ◌+ℤ◌, ◌-ℤ◌, ◌*ℤ◌}
use Rattle.numbers.specs.Words.{ℕ, suc, Bool, true, false, not, cond, ltb, leb, List, [], get_or, build, ℤ, pos, neg_ℤ, nat_abs, shr_z, clip_z, signed_to, signed_byte_z, Option, Some, None}
pub use Rattle.filter.specs.declared.answers.Rule.{Rule}
pub use Rattle.filter.specs.declared.answers.Rule.TheVariants.{EdgeFailed, Rough, Simple, HighVariance, MacroblockEdge, InnerEdge}

-- Eight across an edge: p3, p2, p1, p0 up to it, and q0, q1, q2, q3 behind it.
pub record Eight (A : Type 0) : Type 0 where
  pub p3 : A
  pub p2 : A
  pub p1 : A
  pub p0 : A
  pub q0 : A
  pub q1 : A
  pub q2 : A
  pub q3 : A

-- the eight by their places, 0 for p3 to 7 for q3
abbrev pub eight_of : {A : Type 0} → (ℕ → A) → Eight A
eight_of f = record { p3 = f 0; p2 = f 1; p1 = f 2; p0 = f 3; q0 = f 4; q1 = f 5; q2 = f 6; q3 = f 7 }

-- The samples, as numbers to compute with.
abbrev pub Samples : Type 0
Samples = Eight ℤ

-- the samples of a list of eight bytes
abbrev pub samples_across : List ℕ → Samples
samples_across e = eight_of (λ i. pos (get_or e i 0))

-- ---- which rule acts

-- How far two samples lie apart.
abbrev pub apart : ℤ → ℤ → ℕ
apart a b = nat_abs (a -ℤ b)

-- The edge test (5014, 5112): the step across the edge is small enough to be the coder's doing.
unfoldable pub within_limit_of : Samples → (limit : ℕ) → Bool
within_limit_of e limit = leb (4 * apart e.p0 e.q0 + apart e.p1 e.q1) (2 * limit + 1)

-- How many tests hold before the first that fails.
unfoldable pub first_false : List Bool → ℕ
first_false [] = 0
first_false (true ∷ bs) = suc (first_false bs)
first_false (false ∷ bs) = 0

-- Two neighbours are smooth: they lie no further apart than `inner`, the RFC's interior_limit (5113-5116).
unfoldable pub smooth : (inner : ℕ) → ℤ → ℤ → Bool
smooth inner a b = leb (apart a b) inner

-- Whether each of the six pairs of neighbours is smooth: p3-p2, p2-p1, p1-p0, and q3-q2, q2-q1, q1-q0.
abbrev pub pairs : Samples → (inner : ℕ) → List Bool
pairs e inner =
    smooth inner e.p3 e.p2 ∷ smooth inner e.p2 e.p1 ∷ smooth inner e.p1 e.p0
    ∷ smooth inner e.q3 e.q2 ∷ smooth inner e.q2 e.q1 ∷ smooth inner e.q1 e.q0 ∷ []

-- The first of them that is not, 0 to 5; 6 where all are.
unfoldable pub rough_at : Samples → (inner : ℕ) → ℕ
rough_at e inner = first_false (pairs e inner)

-- High edge variance (`hev`, its hev_threshold; 5127-5133): the two samples next to the edge, on either side, lie further apart than `threshold`.
unfoldable pub high_variance_of : Samples → (threshold : ℕ) → Bool
high_variance_of e threshold = ltb threshold (apart e.p1 e.p0) || ltb threshold (apart e.q1 e.q0)

-- The rule that acts. `simple` picks the simple filter, which asks for the edge test alone; `edge` says that the edge is a macroblock's.
unfoldable pub rule_of : Samples → (simple edge : Bool) (limit inner threshold : ℕ) → Rule
rule_of e simple edge limit inner threshold =
    cond (not (within_limit_of e limit)) EdgeFailed
    (cond simple Simple
    (cond (ltb (rough_at e inner) 6) (Rough (rough_at e inner))
    (cond (high_variance_of e threshold) HighVariance
    (cond edge MacroblockEdge InnerEdge))))

-- ---- what a rule does

-- Three times the step from p0 to q0 (4967).
unfoldable pub across : Samples → ℤ
across e = pos 3 *ℤ (e.q0 -ℤ e.p0)

-- The same with the outer taps: the difference of p1 and q1, as a signed byte (4967, 5239).
unfoldable pub tapped : Samples → ℤ
tapped e = across e +ℤ signed_byte_z (e.p1 -ℤ e.q1)

-- An eighth of a, rounded down, in -16..15 (4972, 4978).
unfoldable pub eighth : ℤ → ℤ
eighth a = signed_to 15 (shr_z a 8)

-- k parts in 128 of w, rounded (5246, 5252, 5258).
unfoldable pub part : (k : ℕ) (w : ℤ) → ℤ
part k w = shr_z (pos k *ℤ w +ℤ pos 63) 128

-- Half of a, rounded up (5180).
unfoldable pub half : ℤ → ℤ
half a = shr_z (a +ℤ pos 1) 2

-- The steps of eight samples: what the rule adds on the p side and takes off on the q side. The outermost two never move.
unfoldable pub sides : (p2 p1 p0 q0 q1 q2 : ℤ) → List ℤ
sides p2 p1 p0 q0 q1 q2 = pos 0 ∷ p2 ∷ p1 ∷ p0 ∷ neg_ℤ q0 ∷ neg_ℤ q1 ∷ neg_ℤ q2 ∷ pos 0 ∷ []

-- No step.
unfoldable pub no_steps : List ℤ
no_steps = sides (pos 0) (pos 0) (pos 0) (pos 0) (pos 0) (pos 0)

-- The common adjustment (4945-5000): the two samples at the edge move toward each other by an eighth of a.
unfoldable pub common_steps_of : (a : ℤ) → List ℤ
common_steps_of a = sides (pos 0) (pos 0) (eighth (a +ℤ pos 3)) (eighth (a +ℤ pos 4)) (pos 0) (pos 0)

-- A macroblock's edge (5234-5260): three samples on each side move by 27, 18 and 9 parts in 128 of w.
unfoldable pub macroblock_steps_of : (w : ℤ) → List ℤ
macroblock_steps_of w = sides (part 9 w) (part 18 w) (part 27 w) (part 27 w) (part 18 w) (part 9 w)

-- An inner edge (5178-5185): the common adjustment, and the next sample on each side moves half as far as q0.
unfoldable pub inner_steps_of : (a : ℤ) → List ℤ
inner_steps_of a =
    sides (pos 0) (half (eighth (a +ℤ pos 4))) (eighth (a +ℤ pos 3)) (eighth (a +ℤ pos 4)) (half (eighth (a +ℤ pos 4))) (pos 0)

-- What each rule adds to the eight samples. The outer taps count but for an inner edge of low variance.
unfoldable pub steps_of : Rule → Samples → List ℤ
steps_of EdgeFailed e = no_steps
steps_of (Rough pair) e = no_steps
steps_of Simple e = common_steps_of (tapped e)
steps_of HighVariance e = common_steps_of (tapped e)
steps_of MacroblockEdge e = macroblock_steps_of (signed_byte_z (tapped e))
steps_of InnerEdge e = inner_steps_of (across e)

-- Each sample with its step added, clipped to a byte.
unfoldable pub moved_of : List ℕ → (steps : List ℤ) → List ℕ
moved_of e steps = build 8 (λ i. clip_z (pos (get_or e i 0) +ℤ get_or steps i (pos 0)))

-- ---- the calls

-- The eight samples after the filter.
unfoldable pub filter_of : List ℕ → (simple edge : Bool) (limit inner threshold : ℕ) → List ℕ
filter_of e simple edge limit inner threshold =
    moved_of e (steps_of (rule_of (samples_across e) simple edge limit inner threshold) (samples_across e))

-- The kth of them; an index past the eight is refused.
unfoldable pub pixel_of : List ℕ → (simple edge : Bool) (limit inner threshold : ℕ) (k : ℕ) → Option ℕ
pixel_of e simple edge limit inner threshold k =
    cond (ltb k 8) (Some (get_or (filter_of e simple edge limit inner threshold) k 0)) None

-- The answer's number: 0, and 9 for an index that is refused.
abbrev pub pixel_number_of : Option ℕ → ℕ
pixel_number_of (Some x) = 0
pixel_number_of None = 9

-- Every sample is a byte, as a fact.
abbrev pub Bytes : List ℕ → Type 0
Bytes e = (i : ℕ) → get_or e i 0 < 256
