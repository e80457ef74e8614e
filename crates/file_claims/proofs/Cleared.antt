-- A table and the same table cleared meet the same refusals. Assumes nothing.
use mathlib.Core.Path.{◌≡◌, ap, ◌∙◌}
use mathlib.Core.List.{List}
use Prim.Native.Nat.{ℕ, ◌-◌, ◌≤◌, ◌<◌}
use native.Mathlib.Omega.{arith}
use lib.ListN.{length, take, replicate, get_or-append}
use lib.Seq.{length-take-le, get_or-take}
use Rattle.rules.specs.declared.Refusal.{Refusal}
use Rattle.rules.specs.declared.Table.{Table}
use Rattle.laws.specs.Idioms.{entry, filled}
use Rattle.rules.specs.Tasks.{no_task, task_of}
use Rattle.rules.specs.Cores.{set_of}
use Rattle.rules.specs.Chain.{◌or_else◌, given}
use Rattle.rules.specs.Refusals.{counts_fault, check_row, set_fault, core_fault, time_fault, request_fault, board_refusal, tasks_refusal, check_board, check_tasks, check_table}
use Rattle.facts.proofs.Accepted.{sound}
use Rattle.facts.proofs.First.{first-same}
use Rattle.file_claims.specs.Files.{AcceptedTable, Shape, cleared}

-- a used place is kept, whatever the others are filled with
kept : {A : Type 0} (m n : ℕ) (d fill : A) (l : List A) (p : ℕ) → n ≤ length l → 1 ≤ p → p ≤ n → entry d (filled m fill (take n l)) p ≡ entry d l p
kept m n d fill l p fits low high =
    let less : p - 1 < n = omega arith in
    let used : p - 1 < length (take n l) = rw (length-take-le n l fits) less in
    get_or-append (take n l) (replicate (m - length (take n l)) fill) d (p - 1) used ∙ get_or-take n l (p - 1) d less

module _ (t : Table) (shape : Shape t) (passed : AcceptedTable t) where
  set-kept : (p : ℕ) → 1 ≤ p → p ≤ t.cores → set_of (cleared t) p ≡ set_of t p
  unfolding cleared
  set-kept p = kept 8 t.cores 0 _ t.sets p (omega (arith, (sound t passed).cores-in, shape.sets))

  task-kept : (k : ℕ) → 1 ≤ k → k ≤ t.tasks → task_of (cleared t) k ≡ task_of t k
  unfolding cleared
  task-kept k = kept 32 t.tasks no_task _ t.task k (omega (arith, (sound t passed).tasks-in, shape.tasks))

  board-same : check_board (cleared t) ≡ check_board t
  unfolding check_board board_refusal cleared
  board-same =
      ap (λ (r : Refusal). given 5 0 (counts_fault t.cores t.partitions t.tasks t.fourth) or_else check_row t.fourth t.timing or_else r)
      (first-same 8 t.cores (λ p low high. ap (set_fault t.partitions) (set-kept p low high)))

  tasks-same : check_tasks (cleared t) ≡ check_tasks t
  unfolding check_tasks tasks_refusal cleared
  tasks-same = λ j.
      first-same 9 t.tasks (λ k low high. ap (core_fault t.cores) (task-kept k low high)) j
      or_else first-same 10 t.tasks (λ k low high. ap time_fault (task-kept k low high)) j
      or_else first-same 11 t.tasks (λ k low high. ap request_fault (task-kept k low high)) j

  pub cleared-same : check_table (cleared t) ≡ check_table t
  unfolding check_table
  cleared-same = rw (board-same, tasks-same)
