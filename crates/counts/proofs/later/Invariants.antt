-- What tasks ask for after their first jobs, place by place. Assumes nothing.
use Rattle.std.proofs.Common.{◌*◌, ◌^◌}
use Rattle.counts.specs.Counts.{later_of, Summed}
use Rattle.counts.proofs.later.Given as goal

abbrev pub invariant-loop-i : goal.invariant-loop-i
invariant-loop-i l = Summed (10000 * 10 ^ 6) (later_of l.t l.tasks.periods l.tasks.requests) l.a l.i l.sum
