-- No answer. Assumes nothing.
use Rattle.unjudged.proofs.no_answers.Goals as goal

pub returns : goal.returns
returns c = simp c.missed.ensures
