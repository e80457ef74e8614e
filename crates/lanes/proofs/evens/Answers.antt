-- The even bytes of a word. Assumes nothing.
use borrow.Author.Rules.{rules}
use Rattle.lanes.specs.Lanes.{evens_of}
use Rattle.lanes.proofs.evens.Goals as goal

pub returns : goal.returns
unfolding evens_of
returns c = search rules
