-- The places of one core's tasks. Assumes nothing.
use Rattle.std.proofs.Common.{◌≤◌}
use Rattle.standing.specs.OnCore.{places_on}
use Rattle.groups.specs.Grouped.{Joined}
use Rattle.groups.proofs.group.Given as goal

abbrev pub invariant-loop-i : goal.invariant-loop-i
invariant-loop-i l = (l.at ≤ 32) × Joined l.n (places_on l.core l.q l.i) l.m l.at l.initial.order l.order
