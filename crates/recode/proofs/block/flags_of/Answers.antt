use Rattle.numbers.specs.Words.{ℕ, ◌+◌, ◌-◌, ◌*◌, ◌/◌, ◌%◌, ◌≤◌, ◌<◌, arith, ◌≡◌, ◌∙◌, le-ltb, lt-ltb}
use Rattle.residual.specs.Quick.{place_at}
use Rattle.residual.specs.QuickLaws.{place_first, place_later}
use Rattle.residual.specs.Residual.{coordinates}
use Rattle.recode.proofs.block.flags_of.Goals as goal

luma : (j : ℕ) → (j ≡ 0 → ⊥) → j - 1 < 16 → ((j - 1) % 4 ≡ (place_at j).x) × ((j - 1) / 4 ≡ (place_at j).y)
unfolding coordinates
luma j n h =
    let x : (j - 1) % 4 ≡ (coordinates (j - 1)).x = rw (lt-ltb (j - 1) 16 h, coordinates) in
    let y : (j - 1) / 4 ≡ (coordinates (j - 1)).y = rw (lt-ltb (j - 1) 16 h, coordinates) in
    (x ∙ (λ i. (place_later j n i).x), y ∙ (λ i. (place_later j n i).y))

chroma : (j : ℕ) → (j ≡ 0 → ⊥) → 16 ≤ j - 1 → (4 + (j - 1 - 16) / 4 * 2 + (j - 1) % 2 ≡ (place_at j).x) × (4 + (j - 1 - 16) / 4 * 2 + (j - 1) % 4 / 2 ≡ (place_at j).y)
unfolding coordinates
chroma j n h =
    let x : 4 + (j - 1 - 16) / 4 * 2 + (j - 1) % 2 ≡ (coordinates (j - 1)).x = rw (le-ltb (j - 1) 16 h, coordinates) in
    let y : 4 + (j - 1 - 16) / 4 * 2 + (j - 1) % 4 / 2 ≡ (coordinates (j - 1)).y = rw (le-ltb (j - 1) 16 h, coordinates) in
    (x ∙ (λ i. (place_later j n i).x), y ∙ (λ i. (place_later j n i).y))

pub returns-then-j-eq0 : goal.returns-then-j-eq0
returns-then-j-eq0 c = let e = place_first c.args.j c.if-j-eq0.true in (λ i. (e i).x, λ i. (e i).y, omega arith, omega arith)

pub returns-then-i-lt16 : goal.returns-then-i-lt16
returns-then-i-lt16 c =
    let l = luma c.args.j c.if-j-eq0.false c.if-i-lt16.true in
    (l.0, l.1, omega (arith, c.if-i-lt16.true), omega (arith, c.if-i-lt16.true))

pub returns : goal.returns
returns c =
    let l = chroma c.args.j c.if-j-eq0.false c.if-i-lt16.false in
    (l.0, l.1, omega (arith, c.requires, c.if-i-lt16.false), omega (arith, c.requires, c.if-i-lt16.false))
