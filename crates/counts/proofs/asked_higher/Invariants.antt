-- What higher tasks ask for, place by place. Assumes nothing.
use Rattle.std.proofs.Common.{◌*◌, ◌^◌}
use Rattle.counts.specs.Counts.{released, Summed}
use Rattle.counts.proofs.asked_higher.Given as goal

abbrev pub invariant-loop-i : goal.invariant-loop-i
invariant-loop-i l =
    Summed (10000 * 10 ^ 12) (released 0 l.t l.tasks.periods l.tasks.execs) l.a l.i l.exec_sum
    × Summed (10000 * 10 ^ 6) (released 0 l.t l.tasks.periods l.tasks.requests) l.a l.i l.request_sum
