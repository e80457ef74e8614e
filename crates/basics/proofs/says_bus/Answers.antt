-- Bit 0 of a byte is its remainder by 2. Assumes nothing.
use native.Mathlib.Nat.{div-one}
use Rattle.rules.specs.Kinds.{says_bus}
use Rattle.basics.proofs.says_bus.Goals as goal

pub returns : goal.returns
unfolding says_bus
returns c = rw div-one
