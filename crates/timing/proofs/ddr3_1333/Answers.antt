-- The supplied row is the rules'. Assumes nothing.
use mathlib.Core.Path.{refl}
use Rattle.rules.specs.Timing.{ddr3_1333}
use Rattle.timing.proofs.ddr3_1333.Goals as goal

pub returns : goal.returns
unfolding ddr3_1333
returns c = refl
