-- `with_tokens` meets its contract: what the residual's answer says of the grammar, and what follows from it.
use Rattle.numbers.specs.Words.{◌≡◌, refl, sym, ◌∙◌, ap, replicate, pos}
use Rattle.reader.specs.Reading.{given, run, count}
use Rattle.header.specs.declared.quantizers.Factors.{Factors}
use Rattle.header.specs.Frame.{factors_at}
use Rattle.modes.specs.Modes.{macroblock_of}
use Rattle.transform.specs.Lanes.{macroblock_blocks}
use Rattle.residual.specs.Residual.{residual_of}
use Rattle.residual.specs.ResidualLaws.{from_residual, from_ended, decoded, decode_ends}
use Rattle.residual.specs.ResidualLaws as ResidualLaws
use Rattle.macroblock.specs.Macroblock.{planes_of, reads_made, macroblock_token_reads}
use Rattle.macroblock.specs.MacroblockLaws.{tokens_missing, tokens_done, painting, complete_good}
use Rattle.whole.proofs.with_tokens.Goals as goal
use Rattle.whole.proofs.with_tokens.Goals.{After-decode-read}

-- what the residual's answer says of the grammar
is : (c : After-decode-read) → run (residual_of c.args.table.now (factors_at c.args.frame c.args.m.kinds.segment) c.args.m.kinds.small c.args.m.kinds.skip c.args.around.top.flags c.args.around.left.flags) c.args.tokens.now c.args.t ≡ from_residual (macroblock_blocks c.decode-read.new.out) c.decode-read.result.residual
is c =
    ap (λ (f : Factors). run (residual_of c.args.table.now f c.args.m.kinds.small c.args.m.kinds.skip c.args.around.top.flags c.args.around.left.flags) c.args.tokens.now c.args.t) (sym (c.factors_of-f.ensures ∙ ap (factors_at c.args.frame) c.from.ensures))
    ∙ decoded _ _ _ _ _ _ _ _ _ c.requires.tokens.token (record { size = c.requires.tokens.size; top_flags = c.requires.tokens.top; left_flags = c.requires.tokens.left; long = refl }) (λ i. (c.type_inv.tokens i).fits) (λ i. (c.type_inv.table i).fits) c.decode-read.ensures.0

-- and its count
counted : (c : After-decode-read) → c.decode-read.result.reads ≡ macroblock_token_reads c.args.tokens.now c.args.t c.args.frame c.args.table.now c.args.around (given (macroblock_of c.args.m.kinds c.args.m.modes) c.args.m.next)
counted c =
    ResidualLaws.decode_reads_lem _ _ _ _ _ _ _ _ _ c.requires.tokens.token (record { size = c.requires.tokens.size; top_flags = c.requires.tokens.top; left_flags = c.requires.tokens.left; long = refl }) c.decode-read.ensures.1
    ∙ ap (λ (f : Factors). count (residual_of c.args.table.now f c.args.m.kinds.small c.args.m.kinds.skip c.args.around.top.flags c.args.around.left.flags) c.args.tokens.now c.args.t) (c.factors_of-f.ensures ∙ ap (factors_at c.args.frame) c.from.ensures)

pub returns-in_default : goal.returns-in_default
returns-in_default c =
    let d = (goal.at.returns-in_default c).After-decode-read in (
      tokens_missing c.args.tokens.now c.args.t c.args.frame c.args.table.now c.args.around c.args.place (macroblock_of c.args.m.kinds c.args.m.modes) _ _ (is d ∙ ap (from_ended d.decode-read.result.residual.top d.decode-read.result.residual.left (macroblock_blocks d.decode-read.new.out)) c.in_default.is) c.stopped.ensures.0,
      c.stopped.ensures.1 ∙ ap (reads_made c.args.m.reads) (counted d),
    )

pub returns : goal.returns
returns c =
    let d = (goal.at.returns c).After-decode-read in
    let g = is d ∙ ap (from_ended d.decode-read.result.residual.top d.decode-read.result.residual.left (macroblock_blocks d.decode-read.new.out)) c.in-Ok.is in
    let e = decode_ends _ _ _ _ _ _ _ _ (replicate 384 (pos 0)) c.requires.tokens.token (record { size = c.requires.tokens.size; top_flags = c.requires.tokens.top; left_flags = c.requires.tokens.left; long = refl }) (λ i. (c.type_inv.tokens i).fits) (λ i. (c.type_inv.table i).fits) g in
    let m = macroblock_of c.args.m.kinds c.args.m.modes in
    let q = planes_of c.args.y.now c.args.u.now c.args.v.now in (
      c.complete.ensures
          ∙ complete_good c.args.frame c.args.place q m c.args.m.next _ _ c.requires.tokens.sound c.requires.laid (painting c.requires.in_range e.value)
          ∙ tokens_done c.args.tokens.now c.args.t c.args.frame c.args.table.now c.args.around c.args.place m c.args.m.next q g,
      ap (reads_made c.args.m.reads) (counted d),
    )
