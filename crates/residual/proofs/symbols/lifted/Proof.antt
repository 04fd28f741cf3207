use Rattle.numbers.specs.Words.{◌-◌, ◌<◌, arith, get_or, rules}
use Rattle.wide.specs.WideLaws.{wrapped32}
use Rattle.residual.specs.SymbolsLaws.{norm_few, norm_byte, lifted_is}
use Rattle.residual.proofs.symbols.lifted.Statement.{statement}
use Rattle.residual.proofs.symbols.lifted.Tie as tie

sub-k : tie.Need-overflow_sub-k
sub-k c = search rules

element-copy-out-k : tie.Need-bounds-norms-range
element-copy-out-k c = search rules

few : (c : tie.After-k-1) → (get_or c.args.norms.now (c.args.range - 1) 0 < 8)
few c = norm_few c.requires.0 c.requires.1.0 c.requires.1.1

cast-k : tie.Need-overflow_cast-k-2
cast-k c = record { fits = omega (arith, few c) }

cast-t11 : tie.Need-overflow_cast-result
cast-t11 c = record { fits = omega (arith, few c) }

shl-t12 : tie.Need-overflow_shl-result
shl-t12 c = omega (arith, few c)

add-t7 : tie.Need-overflow_add-result
add-t7 c = search rules

element-copy-out-t10 : tie.Need-bounds-norms-range-2
element-copy-out-t10 c = search rules

cast-t15 : tie.Need-overflow_cast-result-3
cast-t15 c = record { fits = omega (arith, norm_byte c.requires.0 c.requires.1.0 c.requires.1.1) }

wrapping-sub-u32-requires : tie.Need-wrapping_sub_u32-requires
wrapping-sub-u32-requires c κs = search rules

returns : tie.Need-returns
returns c =
    let t = norm_byte c.requires.0 c.requires.1.0 c.requires.1.1 in
    (lifted_is c.requires.0 c.requires.1.0 c.requires.1.1 c.args.w c.args.value (wrapped32 _ _ _ (omega arith) (omega (arith, few c.before.before)) c.wrapping_sub_u32.ensures), record { least = t.0; most = t.1 })

pub lifted_spec : {M : Type 1} → statement M
lifted_spec = tie.close (tie.spec sub-k element-copy-out-k cast-k cast-t11 shl-t12 add-t7 element-copy-out-t10 cast-t15 wrapping-sub-u32-requires returns)
