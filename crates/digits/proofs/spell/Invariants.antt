-- `spell` meets its contract. The invariant: what is left of the number, spelled before the digits that stand, is the whole number spelled, and there is room
-- for it. Assumes nothing.
use mathlib.Core.Path.{◌≡◌}
use Prim.Native.Nat.{suc, ◌^◌, ◌≤◌, ◌<◌}
use lib.ListN.{length}
use Rattle.laws.specs.Decimal.{decimal}
use Rattle.digits.proofs.Decimal.{spelled}
use Rattle.digits.proofs.spell.Given as goal

abbrev pub invariant-loop-m : goal.invariant-loop-m
invariant-loop-m l = (l.i ≤ 19) × (length l.d ≡ 20) × (l.m < 10 ^ suc l.i) × (decimal l.n ≡ spelled l.m l.d l.i)

abbrev pub decreases-loop-m : goal.decreases-loop-m
decreases-loop-m l = l.m
