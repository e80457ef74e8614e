-- The places of every core's tasks. Assumes nothing.
use Rattle.std.proofs.Common.{◌≡◌, rules, arith}
use Rattle.groups.proofs.InTurn.{turn_none, turn_room, turn_next, turn_done}
use Rattle.groups.proofs.grouped.Goals as goal

pub loop-q-init : goal.loop-q-init
loop-q-init c = turn_none _ _ (search rules)

pub group-m-requires-clause-n_bound : goal.group-m-requires-clause-n_bound
group-m-requires-clause-n_bound c = (search rules, omega (arith, turn_room c.args.core.now c.args.n c.loop-q.invariant))

pub loop-q-preserved : goal.loop-q-preserved
loop-q-preserved c = turn_next c.args.core.now c.args.n (search rules) c.loop-q.invariant c.group-m.ensures

pub returns : goal.returns
returns c =
    let e : c.loop-q.q ≡ c.args.cores = omega arith in
    turn_done c.args.core.now c.args.n (rw e at c.loop-q.invariant)
