-- Four lanes added up. Assumes nothing.
use borrow.Author.Rules.{rules}
use Rattle.lanes.specs.Lanes.{added_of}
use Rattle.lanes.proofs.added.Goals as goal

pub returns : goal.returns
unfolding added_of
returns c = search rules
