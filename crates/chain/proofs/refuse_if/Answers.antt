-- A fault is refused by its number, and no fault is none. Assumes nothing.
use mathlib.Core.Path.{◌∙◌}
use Rattle.facts.proofs.Chain.{faulty, faultless}
use Rattle.chain.proofs.refuse_if.Goals as goal

pub returns-then-fault : goal.returns-then-fault
returns-then-fault c = c.refuse.ensures ∙ faulty _ _ _ c.requires c.if-fault.true

pub returns : goal.returns
returns c = faultless _ _ _ c.if-fault.false
