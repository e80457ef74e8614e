-- 9, then 10, then 11. Assumes nothing.
use Rattle.chain.proofs.Walk.{stays}
use Rattle.facts.proofs.Chain.{stops_at, goes_on_to}
use Rattle.task_walk.specs.Faults.{told_by}
use Rattle.task_walk.proofs.told.Goals as goal

pub returns-in_err-refuse_seen : goal.returns-in_err-refuse_seen
unfolding told_by
returns-in_err-refuse_seen c = stops_at _ _ _ _ c.from_residual.ensures.1 (stays _ _ _ c.in_err-refuse_seen.ensures)

pub returns-in_err-refuse_seen-2 : goal.returns-in_err-refuse_seen-2
unfolding told_by
returns-in_err-refuse_seen-2 c =
    stops_at _ _ _ _ c.from_residual-in_err-refuse_seen-2.ensures.1 (goes_on_to _ _ _ _ c.in_ok-refuse_seen.ensures c.in_err-refuse_seen-2.ensures)

pub returns : goal.returns
unfolding told_by
returns c =
    goes_on_to _ _ _ _ (goes_on_to _ _ _ _ c.in_ok-refuse_seen.ensures c.in_ok-refuse_seen-2.ensures) c.refuse_seen-3.ensures
