-- `costs` weighs every core, and sums the weights. Assumes nothing.
use Rattle.std.proofs.Common.{rules, arith}
use Rattle.dram.proofs.Gathered.{so_far-none, so_far-next, so_far-all}
use Rattle.dram.proofs.costs.Goals as goal

pub loop-q-init : goal.loop-q-init
loop-q-init c = (search rules, λ t e s. so_far-none t _)

pub loop-q-preserved : goal.loop-q-preserved
loop-q-preserved c = (
  search rules,
  λ t e s. so_far-next t _ (c.loop-q.invariant.1 t e s) (search rules) (c.weigh-each.ensures.value t (search rules) (search rules) s),
)

pub returns : goal.returns
returns c = λ t e s. so_far-all t _ (c.loop-q.invariant.1 t e s) (omega arith) (c.request_delay.ensures t (search rules) s)
