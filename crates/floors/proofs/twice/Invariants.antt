-- Two jobs of each task, place by place. Assumes nothing.
use Rattle.std.proofs.Common.{◌+◌, ◌*◌, ◌^◌}
use Rattle.counts.specs.Counts.{twice_of, Summed}
use Rattle.floors.proofs.twice.Given as goal

abbrev pub invariant-loop-n : goal.invariant-loop-n
invariant-loop-n l = Summed (2 * 10 ^ 6) (twice_of l.requests) l.a (l.a + l.n-index) l.sum
