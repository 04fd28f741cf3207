use Rattle.numbers.specs.Words.{sym, ◌∙◌}
use Rattle.writer.specs.Room.{ended_of}
use Rattle.writer.specs.RoomLaws.{fine_fact, flush_bad, flush_good}
use Rattle.writer.proofs.Writer.flush.Goals as goal

pub returns-then-not-fine : goal.returns-then-not-fine
returns-then-not-fine c = flush_bad _ _ (sym c.fine.ensures ∙ c.if-not-fine.true)

pub finish-requires : goal.finish-requires
finish-requires c = let f = fine_fact _ (sym c.fine.ensures ∙ c.if-not-fine.false) in record { fine = f.0; count_bound = f.1 }

pub returns : goal.returns
returns c = (λ i. ended_of (c.finish.ensures.0 i) (c.finish.ensures.1 i)) ∙ flush_good _ _ (sym c.fine.ensures ∙ c.if-not-fine.false)
