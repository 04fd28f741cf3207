-- What single functions of the code take and give, where the definitions have no name for it.
use Rattle.std.specs.Prelude.{◌+◌, ◌*◌, ◌<◌, ◌≡◌, ◌&&◌, ◌⊎◌, ◌∷◌}
use Rattle.numbers.specs.Words.{ℕ, Bool, false, List, [], build, ℤ, pos, negsuc, le_z, In}
use Rattle.transform.specs.Transform.{at, samples_of}
use Rattle.transform.specs.Lanes.{short_residual}

-- sixteen that fit 16 bits
pub record CoefficientsIn (c : List ℤ) : Type 0 where
  pub fit : (k : ℕ) → k < 16 → In (negsuc 32767) (pos 32767) (at c k)

-- every coefficient below n but the first is 0
pub record PlainTo (n : ℕ) (c : List ℤ) : Type 0 where
  pub zero : (k : ℕ) → 0 < k → k < n → at c k ≡ pos 0

-- -2048..2047: then the transform stays within 16 bits
abbrev pub is_small : ℤ → Bool
is_small z = le_z (negsuc 2047) z && le_z z (pos 2047)

-- block i of n blocks by lanes
unfoldable pub lane_of : (n : ℕ) → List ℤ → (i : ℕ) → List ℤ
lane_of n c i = build 16 (λ k. at c (n * k + i))

-- how long the coefficients of 8 or of 16 blocks are
abbrev pub Blocks : ℕ → Type 0
Blocks n = (n ≡ 128) ⊎ (n ≡ 256)

-- four numbers of a block of n, from the place of the first
abbrev pub lane_row : (n : ℕ) → List ℤ → (from : ℕ) → List ℤ
lane_row n t from = at t from ∷ at t (from + n) ∷ at t (from + 2 * n) ∷ at t (from + 3 * n) ∷ []

-- number k of the residual of block i of n, and the same with room for a sample
abbrev pub turned_at : (n : ℕ) → List ℤ → (i k : ℕ) → ℤ
turned_at n c i k = at (samples_of false (lane_of n c i)) k

abbrev pub alone_at : (n : ℕ) → List ℤ → (i k : ℕ) → ℤ
alone_at n c i k = short_residual (turned_at n c i k)
