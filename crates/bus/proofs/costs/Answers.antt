-- A price for each core, and the turns of all others. Assumes nothing.
use Rattle.std.proofs.Common.{◌≡◌, refl, rules, arith}
use Rattle.laws.specs.Idioms.{from}
use Rattle.laws.proofs.Places.{place_next}
use Rattle.rules.specs.Units.{ps}
use Rattle.rules.specs.Bus.{bus_RD}
use Rattle.facts.specs.Prices.{if_other, bus_prices}
use Rattle.bus.proofs.costs.Goals as goal

pub loop-q-init : goal.loop-q-init
unfolding from
loop-q-init c = λ t e. refl

pub loop-q-preserved : goal.loop-q-preserved
loop-q-preserved c = λ t e. rw (c.loop-q.invariant t e, c.price.ensures t e) (place_next (ps 0) (λ r. ps (if_other t _ r)) 8 c.loop-q.q (search rules))

pub returns : goal.returns
unfolding bus_prices bus_RD
returns c t n e =
    let all : c.loop-q.q ≡ t.cores = omega arith in
    rw (c.loop-q.invariant t e, all, ← e, n)
