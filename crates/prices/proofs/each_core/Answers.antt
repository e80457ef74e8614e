-- The costs of each core, core by core. Assumes nothing.
use Rattle.std.proofs.Common.{◌+◌, rules}
use Rattle.laws.specs.Idioms.{from}
use Rattle.laws.proofs.Places.{place_next}
use Rattle.prices.specs.Costs.{no_costs}
use Rattle.prices.proofs.each_core.Goals as goal

pub loop-p-init : goal.loop-p-init
unfolding from
loop-p-init g c = λ of each. rw c.no_costs-none.ensures

pub loop-p-preserved : goal.loop-p-preserved
loop-p-preserved g c = λ of each.
    let l = c.loop-p in
    rw (l.invariant of each, each (l.p + 1) c.costs.result (search rules) c.costs.ensures) (place_next no_costs of 8 l.p (search rules))
