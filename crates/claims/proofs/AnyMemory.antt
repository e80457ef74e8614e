-- Points 2 and 3 over any memory: the laws of `facts`, put together. Assumes nothing.
use Rattle.facts.proofs.Cases.{case_fresh, case_start, case_carried}
use Rattle.facts.proofs.Instance.{case_fit, case_worse}
use Rattle.claims.specs.AnyMemory.{AnyMemory}

pub any_memory : AnyMemory
any_memory = record {
  fresh = case_fresh;
  from_start = case_start;
  from_older = case_carried;
  of_table = λ t k task. case_fit t task.table.accepted k task.first task.last;
  of_two-tables = λ older newer worse. case_worse older newer worse.older_judged.accepted worse.newer_judged.accepted worse.alike;
}
