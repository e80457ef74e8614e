-- The places of one core's tasks. Assumes nothing.
use Rattle.std.proofs.Common.{◌+◌, rules, arith}
use Rattle.standing.proofs.PlacesOn.{places_few}
use Rattle.groups.proofs.Joining.{joined-none, joined-next}
use Rattle.groups.proofs.group.Goals as goal

pub loop-i-init : goal.loop-i-init
loop-i-init c = (search rules, joined-none _ _ (search rules))

pub loop-i-preserved : goal.loop-i-preserved
loop-i-preserved c =
    let l = c.loop-i in
    let core = c.args.core.now in
    let more = joined-next core c.args.q l.i {k = c.from-at.result} (search rules) (search rules) l.invariant.1 (search rules) in
    (omega (arith, more.count, places_few core c.args.q (l.i + 1) c.args.n (search rules)), more)
