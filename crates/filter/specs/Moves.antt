-- How far the kernel can move a sample: the bounds that are promised, and an edge at which every one of them is reached. MovesLaws.antt
-- proves both.
use Rattle.std.specs.Prelude.{◌∷◌}
use Rattle.numbers.specs.Words.{ℕ, Bool, true, false, List, [], get_or, build, pos}
use Rattle.filter.specs.Kernel.{apart}

-- Bounds for the eight samples across an edge, the same on either side. The outermost, p3 and q3, never move.
abbrev pub bounds : (second first next : ℕ) → List ℕ
bounds second first next = 0 ∷ second ∷ first ∷ next ∷ next ∷ first ∷ second ∷ 0 ∷ []

-- The farthest that a sample can move, by the kind of filter and of edge: p2 and q2, p1 and q1, p0 and q0.
unfoldable pub farthest : (simple edge : Bool) → List ℕ
farthest true edge = bounds 0 0 16
farthest false true = bounds 9 18 27
farthest false false = bounds 0 8 16

-- How far each of eight samples has moved.
unfoldable pub moves_of : (before after : List ℕ) → List ℕ
moves_of e f = build 8 (λ k. apart (pos (get_or f k 0)) (pos (get_or e k 0)))

-- A flat area that meets one darker by 64.
abbrev pub cliff : List ℕ
cliff = 164 ∷ 164 ∷ 164 ∷ 164 ∷ 100 ∷ 100 ∷ 100 ∷ 100 ∷ []
