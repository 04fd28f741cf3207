use Rattle.casefile.proofs.run.report.Goals as goal

pub returns : goal.returns
returns c = rw (c.sum_after.ensures, c.sum_after-2.ensures, c.sum_after-3.ensures, c.number-number.ensures, c.finished.ensures, c.hash.ensures, c.hash-2.ensures, c.hash-3.ensures, c.hash-4.ensures, c.hash-5.ensures, c.hash-6.ensures)
