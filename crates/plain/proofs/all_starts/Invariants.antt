-- The starts that are lent, and 0 in the places after them. Assumes nothing.
use mathlib.Core.Path.{◌≡◌}
use lib.ListN.{take}
use Rattle.laws.specs.Idioms.{filled}
use Rattle.plain.proofs.all_starts.Given as goal

abbrev pub invariant-loop-i : goal.invariant-loop-i
invariant-loop-i l = l.all ≡ filled 32 0 (take l.i l.starts)
