-- `put_counts` meets its contract: three phrases one after the other. Assumes nothing.
use Rattle.text.proofs.Put.{◌then◌}
use Rattle.report.proofs.Lines.{counts-line}
use Rattle.report.proofs.put_counts.Goals as goal

pub returns-clause-put : goal.returns-clause-put
returns-clause-put c = rw counts-line (c.put_phrase-promised.ensures.put then c.put_phrase-kept.ensures.put then c.put_phrase.ensures.put)
