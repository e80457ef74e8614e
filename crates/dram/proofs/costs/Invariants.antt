-- `costs` weighs every core, and sums the weights. Assumes nothing.
use Rattle.std.proofs.Common.{◌≡◌, ◌*◌, ◌^◌, ◌≤◌}
use Rattle.rules.specs.declared.Table.{Table}
use Rattle.weights.specs.Shows.{Shows}
use Rattle.dram.proofs.Gathered.{SoFar}
use Rattle.dram.proofs.costs.Given as goal

abbrev pub invariant-loop-q : goal.invariant-loop-q
invariant-loop-q l = (l.sum ≤ l.q * (3 * 10 ^ 7)) × ((t : Table) → t.cores ≡ l.cores → Shows l.p l.near l.far l.f t → SoFar t l.p l.q l.sum l.weight)
