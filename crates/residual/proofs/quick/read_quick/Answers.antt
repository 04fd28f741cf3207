use Rattle.numbers.specs.Words.{arith, refl, sym, ◌∙◌, not-false}
use Rattle.residual.specs.SymbolsLaws.{ranged_widen}
use Rattle.residual.specs.Quick.{wider_of}
use Rattle.residual.specs.QuickLaws.{quick_fine}
use Rattle.residual.proofs.quick.read_quick.Goals as goal

pub parts-m-requires : goal.parts-m-requires
parts-m-requires c = record { table_len = (c.requires.valid.1, (refl, ranged_widen c.widen.ensures c.requires.valid.0)); flags = (c.requires.flags.0, (refl, refl)) }

pub returns : goal.returns
returns c =
    quick_fine c.args.s.now c.args.r c.args.table.now c.args.f c.args.small c.args.top c.args.left c.args.out.now (wider_of c.parts-m.result c.parts-m.new.top c.parts-m.new.left) c.parts-m.new.flat (λ n. (c.shared_slice_known-1.given n).fits) c.requires.valid.0 (omega (arith, c.well_formed.0))
    c.widen.ensures c.parts-m.ensures.0 (sym c.inside.ensures ∙ not-false _ c.if-not-inside.false-raw) c.narrow.ensures c.parts-m.ensures.1 c.copy_from_slice.ensures.after
