-- Lanes as often as there are lanes before them. Assumes nothing.
use borrow.Author.Rules.{rules}
use Rattle.lanes.specs.Lanes.{weighed_of}
use Rattle.lanes.proofs.weighed.Goals as goal

pub returns : goal.returns
unfolding weighed_of
returns c = search rules
