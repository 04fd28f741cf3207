use Rattle.numbers.specs.Words.{not-false, not-true}
use Rattle.frame.specs.Header.{no_features_of, features}
use Rattle.recode_frame.specs.HeaderCopies.{copied_when, copied_not, features_copied}
use Rattle.recode_frame.proofs.before.copy_features.Goals as goal

pub returns-then-not-on : goal.returns-then-not-on
returns-then-not-on c = copied_not c.args.on no_features_of features (not-true _ c.if-not-on.true-raw)

pub returns : goal.returns
returns c = copied_when c.args.on no_features_of features (not-false _ c.if-not-on.false-raw) (features_copied c.copy_bits-absolute.ensures c.copy_four-quantizers.ensures c.copy_four.ensures)
