-- The test is that of bit 1, when the rule is opened. Assumes nothing.
use mathlib.Core.Path.{refl}
use Rattle.rules.specs.Kinds.{says_salvaged}
use Rattle.basics.proofs.says_salvaged.Goals as goal

pub returns : goal.returns
unfolding says_salvaged
returns c = refl
