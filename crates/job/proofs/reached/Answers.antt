-- Job from its floor, core by core, and no further than request. Assumes nothing.
use Rattle.std.proofs.Common.{◌≡◌, refl, rules, arith}
use Rattle.job.proofs.Cores.{added_none, added_next, reached-all, reached-early, reached-first}
use Rattle.job.proofs.reached.Goals as goal

pub returns-then-t-eq0 : goal.returns-then-t-eq0
returns-then-t-eq0 c = rw c.if-t-eq0.true (reached-first c.requires.groups refl)

pub returns-then-request-sum : goal.returns-then-request-sum
returns-then-request-sum c = reached-early c.requires.groups (search rules) (search rules) (search rules) c.loop-q.invariant

pub loop-q-preserved : goal.loop-q-preserved
loop-q-preserved c = added_next c.requires.groups c.loop-q.invariant (c.requires.groups.each c.loop-q.q (search rules)) c.charged-sum.ensures

pub returns : goal.returns
returns c =
    let last : c.loop-q.q ≡ c.args.others.now.cores = omega arith in
    reached-all c.requires.groups (search rules) (rw last at c.loop-q.invariant)

pub loop-q-init : goal.loop-q-init
loop-q-init c = added_none c.requires.groups
