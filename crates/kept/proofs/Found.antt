-- A task has a fault where a walk over it alone finds one, 9, 10 or 11. Assumes nothing.
use mathlib.Core.Path.{◌≡◌, refl}
use mathlib.Core.Bool.{Bool, true, false, not, ◌||◌}
use Prim.Native.Nat.{ℕ}
use Rattle.rules.specs.declared.Task.{Task}
use Rattle.rules.specs.Chain.{◌or_else◌, is_accepted, first, first_from}
use Rattle.rules.specs.Refusals.{core_fault, time_fault, request_fault, tasks_refusal}
use Rattle.rules.specs.Salvage.{task_fault}

pub found : (cores : ℕ) (x : Task) → not (is_accepted (tasks_refusal cores (λ k. x) 1)) ≡ task_fault cores x
unfolding tasks_refusal first_from task_fault
found cores x = go (core_fault cores x) (time_fault x) (request_fault x)
  where
    go : (a b c : Bool) → not (is_accepted (first 9 (λ k. a) 1 or_else first 10 (λ k. b) 1 or_else first 11 (λ k. c) 1)) ≡ a || b || c
    go true b c = refl
    go false true c = refl
    go false false true = refl
    go false false false = refl
