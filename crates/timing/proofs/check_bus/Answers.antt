-- Each figure by its number. Assumes nothing.
use borrow.Author.Rules.{rules}
use Rattle.rules.specs.Refusals.{bus_fault, check_bus}
use Rattle.timing.proofs.check_bus.Goals as goal

pub returns : goal.returns
unfolding check_bus
returns c = c.refuse_first.ensures (bus_fault c.args.row) (λ k b low high post. search rules)
