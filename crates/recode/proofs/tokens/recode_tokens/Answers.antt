use Rattle.numbers.specs.Words.{refl}
use Rattle.lent.specs.Memory.{memory_of}
use Rattle.choices.specs.Choices.{call_of}
use Rattle.recode.specs.PassLaws.{tokens_refused, tokens_small, tokens_rewritten}
use Rattle.recode.proofs.tokens.recode_tokens.Goals as goal

pub returns-then-number-ne0 : goal.returns-then-number-ne0
returns-then-number-ne0 c = tokens_refused (call_of c.args.bytes.now c.args.tile c.args.header.now) (memory_of c.args.y.now c.args.u.now c.args.v.now c.args.columns.now c.args.modes.now c.args.strengths.now) c.args.out.now c.decode-read.ensures.0 c.number-number.ensures c.if-number-ne0.true

pub rewrite-requires : goal.rewrite-requires
rewrite-requires c = tokens_small (call_of c.args.bytes.now c.args.tile c.args.header.now) (memory_of c.args.y.now c.args.u.now c.args.v.now c.args.columns.now c.args.modes.now c.args.strengths.now) c.args.out.now c.decode-read.ensures.0 c.number-number.ensures c.if-number-ne0.false

pub returns : goal.returns
returns c = tokens_rewritten (call_of c.args.bytes.now c.args.tile c.args.header.now) (memory_of c.args.y.now c.args.u.now c.args.v.now c.args.columns.now c.args.modes.now c.args.strengths.now) c.args.out.now c.decode-read.ensures.0 c.number-number.ensures refl c.if-number-ne0.false c.decode-read.ensures.1 c.decode-read.auto.columns c.rewrite.ensures
