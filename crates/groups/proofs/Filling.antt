-- Lent arrays filled with the figures of tasks, place by place. Assumes nothing.
use mathlib.Core.Path.{◌≡◌}
use mathlib.Core.List.{List}
use Prim.Native.Nat.{ℕ, ◌+◌, ◌<◌}
use native.Mathlib.Omega.{arith}
use lib.ListN.{length, get_or, set}
use Rattle.laws.proofs.Fill.{each_next}
use Rattle.rules.specs.declared.Task.{Task}
use Rattle.rules.specs.Tasks.{C, T, H, latest, no_task}
use Rattle.groups.specs.Columns.{PerTask, InOrder, Columns}

module _ {tasks : List Task} where
  pub per_task-none : {core latests : List ℕ} → PerTask tasks 0 core latests
  per_task-none = record { core_is = λ i h. absurd (omega arith); latest_is = λ i h. absurd (omega arith) }

  pub per_task-next : {i x y : ℕ} {core latests : List ℕ} → i < length core → i < length latests → PerTask tasks i core latests
      → x ≡ (get_or tasks i no_task).core → y ≡ latest (get_or tasks i no_task) → PerTask tasks (i + 1) (set core i x) (set latests i y)
  per_task-next {core = core} {latests = latests} fits room so e late =
      record {
        core_is = each_next core (λ i. (get_or tasks i no_task).core) fits so.core_is e;
        latest_is = each_next latests (λ i. latest (get_or tasks i no_task)) room so.latest_is late;
      }

  module _ {order : List ℕ} where
    in_order-none : {f : Task → ℕ} {column : List ℕ} → InOrder f tasks 0 order column
    in_order-none = record { each = λ k h. absurd (omega arith) }

    in_order-next : {f : Task → ℕ} {k y : ℕ} {column : List ℕ} → k < length column → InOrder f tasks k order column
        → y ≡ f (get_or tasks (get_or order k 0) no_task) → InOrder f tasks (k + 1) order (set column k y)
    in_order-next {f} {column = column} fits so e = record { each = each_next column (λ k. f (get_or tasks (get_or order k 0) no_task)) fits so.each e }

    pub columns-none : {spans costs asks : List ℕ} → Columns tasks 0 order spans costs asks
    columns-none = record { periods = in_order-none; execs = in_order-none; requests = in_order-none }

    pub columns-next : {k : ℕ} {spans costs asks : List ℕ} {task : Task} → k < length spans → k < length costs → k < length asks
        → Columns tasks k order spans costs asks → task ≡ get_or tasks (get_or order k 0) no_task
        → Columns tasks (k + 1) order (set spans k (T task)) (set costs k (C task)) (set asks k (H task))
    columns-next p x a so e =
        record {
          periods = in_order-next p so.periods (rw e);
          execs = in_order-next x so.execs (rw e);
          requests = in_order-next a so.requests (rw e);
        }
