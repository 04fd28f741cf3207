-- The laws of blocks that stand one after the other and are laid out by lanes.
use Rattle.std.specs.Prelude.{◌+◌, ◌*◌, ◌/◌, ◌%◌, ◌<◌, ◌≡◌}
use Rattle.numbers.specs.Words.{ℕ, div-lt_iff_lt-mul, mod-lt, arith, sym, ◌∙◌, ap, inl, List, length, get_or, length_placed, placed_in, placed_off, ℤ, pos}
use Rattle.transform.specs.Lanes.{macroblock_lanes}
use Rattle.transform.specs.LanesLaws.{squares_are}
use Rattle.residual.specs.Residual.{laid_from}

-- where a number of n blocks by lanes comes from is among them
pub lane_from : (n p : ℕ) → 0 < n → p < 16 * n → (p % n < n) × (p / n < 16)
lane_from n p z h = (mod-lt p z, (div-lt_iff_lt-mul z).1 h)

-- luma is laid, then chroma
pub laid_squares : (l c : List ℤ) {x y : List ℤ} → length l ≡ 384 → x ≡ laid_from l c 16 0 256 → y ≡ laid_from x c 8 256 128 → y ≡ macroblock_lanes c
laid_squares l c {x} e h k =
    let f : ℕ → ℤ = (λ p. get_or c (0 + (16 * (p % 16) + p / 16)) (pos 0)) in
    let g : ℕ → ℤ = (λ p. get_or c (256 + (16 * (p % 8) + p / 8)) (pos 0)) in
    let n : length x ≡ 384 = ap length h ∙ length_placed l 0 f 256 ∙ e in
    k
    ∙ squares_are c (length_placed x 256 g 128 ∙ n)
    (λ p i.
    let z : 0 + p ≡ p = omega arith in
    let w : 0 + (16 * (p % 16) + p / 16) ≡ 16 * (p % 16) + p / 16 = omega arith in
    placed_off x 256 g 128 p (pos 0) (inl i)
    ∙ (λ q. get_or (h q) (sym z q) (pos 0)) ∙ placed_in l 0 f 256 p (pos 0) (omega arith) i ∙ ap (λ (k : ℕ). get_or c k (pos 0)) w)
    (λ p i. placed_in x 256 g 128 p (pos 0) (omega arith) i)
