-- `squares` meets its contract: a macroblock a turn.
use Rattle.numbers.specs.Words.{◌-◌, ◌*◌, ◌≤◌, ◌<◌, arith, ◌≡◌, refl, sym, ◌∙◌, ap, ⊎_elim, length, rules}
use Rattle.lent.specs.Memory.{strength_at_of}
use Rattle.lent.specs.MacroblocksLaws.{strength_is}
use Rattle.deblock.specs.DeblockLaws.{plane_turn, plane_none, block_yes, block_no, length_plane}
use Rattle.deblock.specs.Deblock.{raster_of}
use Rattle.deblock.specs.Located.{wide_some, grid_square, beside_same}
use Rattle.deblock.proofs.squares.squares.Statement.{statement}
use Rattle.deblock.proofs.squares.squares.Tie as tie

abbrev invariant_loop : tie.invariant-loop-k
invariant_loop p₀ q₀ n wide high simple strengths w m k₀ p q k = (k ≤ wide * high) × (m ≡ wide * high) × (w ≡ wide * n) × (p ≡ raster_of simple strengths n wide k p₀) × (q ≡ raster_of simple strengths n wide k q₀)

abbrev decreases_loop : tie.decreases-loop-k
decreases_loop p₀ q₀ n wide high simple strengths w m k₀ p q k = m - k

mul-w : tie.Need-overflow_mul-w invariant_loop decreases_loop
mul-w c = omega (arith, c.requires.0.grid.across)

mul-m : tie.Need-overflow_mul-m invariant_loop decreases_loop
mul-m c = omega (arith, c.requires.0.long)

loop-holds : tie.Need-loop-k-init invariant_loop decreases_loop
loop-holds c = (omega arith, refl, refl, sym (plane_none _ _ _ _ _), sym (plane_none _ _ _ _ _))

-- a turn's macroblock is one of the plane's
inside : (c : tie.In-loop-k invariant_loop decreases_loop) → c.loop-k.k < c.args.wide * c.args.high
inside c = omega (arith, c.loop-k.invariant, c.loop-k-test)

-- the strengths that a turn reads
found : (c : tie.After-read_strength-found invariant_loop decreases_loop) → c.read_strength-found.result.strength ≡ strength_at_of c.args.strengths.now c.loop-k.k
found c = strength_is _ _ c.read_strength-found.ensures (omega (arith, c.requires.0.long, inside c.before))

rem-square : tie.Need-nonzero_rem-k invariant_loop decreases_loop
rem-square c = wide_some c.args.wide c.args.high c.loop-k.k (inside c.before.before.before.before.before.before)

div-square : tie.Need-nonzero_div-k invariant_loop decreases_loop
div-square c = wide_some c.args.wide c.args.high c.loop-k.k (inside c.before.before.before.before.before.before)

square-requires : tie.Need-square-requires invariant_loop decreases_loop
square-requires c κs =
    let h = inside c.before.before.before.before.before.before in (
      rw (c.loop-k.invariant.3, length_plane) (grid_square c.requires.0.grid c.loop-k.k h),
      (c.requires.0.grid.size, (beside_same (ap length c.loop-k.invariant.3 ∙ length_plane _ _ _ _ _ _) (ap length c.loop-k.invariant.4 ∙ length_plane _ _ _ _ _ _) c.requires.1, rw (found c.before.before.before.before.before) (c.requires.0.limits c.loop-k.k h))),
    )

add-k : tie.Need-overflow_step-k invariant_loop decreases_loop
add-k c = omega (arith, c.requires.0.long, inside c.before.before.before.before)

loop-less : tie.Need-loop-k-smaller invariant_loop decreases_loop
loop-less c = omega (arith, c.loop-k-test)

loop-again : tie.Need-loop-k-preserved invariant_loop decreases_loop
loop-again c =
    let e = found c.before.before.before in (
      omega (arith, inside c.before.before.before.before),
      refl,
      refl,
      plane_turn _ _ _ _ c.loop-k.k _ c.loop-k.invariant.3
          (⊎_elim (λ v. block_yes _ _ _ _ c.loop-k.k c.loop-k.p e v.if-t-ne0.true (v.p-is ∙ v.square.ensures.0)) (λ v. block_no _ _ _ _ c.loop-k.k e v.if-t-ne0.false v.p-is) c.if-t-ne0.branch-raw),
      plane_turn _ _ _ _ c.loop-k.k _ c.loop-k.invariant.4
          (⊎_elim (λ v. block_yes _ _ _ _ c.loop-k.k c.loop-k.q e v.if-t-ne0.true (v.q-is ∙ v.square.ensures.1)) (λ v. block_no _ _ _ _ c.loop-k.k e v.if-t-ne0.false v.q-is) c.if-t-ne0.branch-raw),
    )

same_length : tie.Need-shape_of-p invariant_loop decreases_loop
same_length c = rw c.loop-k.invariant.3 (length_plane _ _ _ _ _ _)

same-length-2 : tie.Need-shape_of-q invariant_loop decreases_loop
same-length-2 c = rw c.loop-k.invariant.4 (length_plane _ _ _ _ _ _)

returns : tie.Need-returns invariant_loop decreases_loop
returns c =
    let e : c.loop-k.k ≡ c.args.wide * c.args.high = omega (arith, c.loop-k.invariant, c.loop-k-test) in
    (rw e at c.loop-k.invariant.3, rw e at c.loop-k.invariant.4)

pub squares_spec : {M : Type 1} → statement M
squares_spec = tie.close (tie.spec invariant_loop decreases_loop mul-w mul-m loop-holds (λ c κs. search rules) rem-square div-square square-requires add-k loop-less loop-again same_length same-length-2 returns)
