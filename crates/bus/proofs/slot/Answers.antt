-- The first figure, as a time. Assumes nothing.
use Rattle.std.proofs.Common.{rules}
use Rattle.rules.specs.Bus.{slot_in}
use Rattle.bus.proofs.slot.Goals as goal

pub returns : goal.returns
unfolding slot_in
returns c = search rules
