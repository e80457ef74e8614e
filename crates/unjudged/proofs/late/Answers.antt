-- The first late start. Assumes nothing.
use borrow.Author.Rules.{rules}
use Rattle.unjudged.specs.Unjudged.{first_after}
use Rattle.unjudged.proofs.OnTime.{after}
use Rattle.unjudged.proofs.late.Goals as goal

pub returns : goal.returns
unfolding first_after
returns c = c.refuse_first.ensures (after c.args.latest.now c.args.starts.now) (λ k b low high e. search rules)
