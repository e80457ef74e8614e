-- The size of a record. Assumes nothing.
use borrow.Author.Rules.{rules}
use Rattle.rules.specs.File.{record_size}
use Rattle.places.proofs.record_size.Goals as goal

pub returns : goal.returns
unfolding record_size
returns c = search rules
