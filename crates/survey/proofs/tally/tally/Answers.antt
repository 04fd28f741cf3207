use Rattle.numbers.specs.Words.{replicate}
use Rattle.survey.specs.TallyLaws.{roomy_zeros, roomy_after, tally_found}
use Rattle.survey.proofs.tally.tally.Goals as goal

pub blocks-requires : goal.blocks-requires
blocks-requires c = record { roomy = roomy_after (replicate 37 0) _ 0 0 8 _ c.answered-counts.ensures roomy_zeros; n_bound = c.requires }

pub returns : goal.returns
returns c = tally_found _ _ _ _ _ _ _ c.answered-counts.ensures c.blocks-2.ensures
