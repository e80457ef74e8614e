-- Where the sets start. Assumes nothing.
use borrow.Author.Rules.{rules}
use Rattle.rules.specs.File.{sets_at}
use Rattle.places.proofs.sets_at.Goals as goal

pub returns : goal.returns
unfolding sets_at
returns c = search rules
