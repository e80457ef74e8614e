-- A walk over n tasks that keeps the first at fault of each kind tells the refusal of all. Assumes nothing.
use Prim.Native.Nat.{ℕ, ◌+◌, ◌≤◌, ◌<◌}
use mathlib.Core.Path.{◌≡◌, refl}
use mathlib.Core.Bool.{Bool, true, false, ◌||◌}
use Rattle.std.specs.Prelude.{Option, None, Some}
use Rattle.rules.specs.declared.Task.{Task}
use Rattle.rules.specs.Chain.{refused, first}
use Rattle.rules.specs.Refusals.{core_fault, time_fault, request_fault, tasks_refusal}
use Rattle.facts.proofs.First.{Left, left-all, left-hit, left-next, left-none}
use Rattle.rules.specs.Salvage.{task_fault}
use Rattle.task_walk.specs.declared.Faults.{Faults}
use Rattle.task_walk.specs.Faults.{earliest, no_faults, with_task, placed, told_by}

-- after i of m places: no fault yet, or the first of all
pub data Seen (n : ℕ) (fault : ℕ → Bool) (m i : ℕ) : Option ℕ → Type 0 where
  clear : Left n fault m i → Seen n fault m i None
  found : {x : ℕ} → refused n x ≡ first n fault m → Seen n fault m i (Some x)

module _ {n : ℕ} {fault : ℕ → Bool} {m i : ℕ} where
  seen_next : {x : Option ℕ} → Seen n fault m i x → i < m → Seen n fault m (i + 1) (earliest x (i + 1) (fault (i + 1)))
  unfolding earliest
  seen_next (clear left) h = go (fault (i + 1)) refl
    where
      go : (b : Bool) → fault (i + 1) ≡ b → Seen n fault m (i + 1) (earliest None (i + 1) b)
      go true e = found {x = i + 1} (left-hit n fault m i left h e)
      go false e = clear (left-next n fault m i left h e)
  seen_next (found {x = x} e) h = found e

  seen_told : {x : Option ℕ} → Seen n fault m i x → m ≤ i → placed n x ≡ first n fault m
  seen_told (clear left) h = left-none n fault m i left h
  seen_told (found {x = x} e) h = e

-- no fault, nothing new
earliest_none : (seen : Option ℕ) (k : ℕ) → earliest seen k false ≡ seen
unfolding earliest
earliest_none None k = refl
earliest_none (Some x) k = refl

past : (s : Faults) (k cores : ℕ) (x : Task) → task_fault cores x ≡ false → s ≡ with_task s k cores x
unfolding with_task task_fault
past s k cores x none = go (core_fault cores x) (time_fault x) (request_fault x) none
  where
    go : (a b c : Bool) → a || b || c ≡ false → s ≡ record { core = earliest s.core k a; time = earliest s.time k b; request = earliest s.request k c }
    go false false false e = rw (earliest_none s.core k, earliest_none s.time k, earliest_none s.request k) refl
    go true b c e = absurd cc
    go false true c e = absurd cc
    go false false true e = absurd cc

-- of the tasks by their numbers
pub record SeenAll (cores : ℕ) (task : ℕ → Task) (m i : ℕ) (s : Faults) : Type 0 where
  pub core : Seen 9 (λ k. core_fault cores (task k)) m i s.core
  pub time : Seen 10 (λ k. time_fault (task k)) m i s.time
  pub request : Seen 11 (λ k. request_fault (task k)) m i s.request

module _ (cores : ℕ) (task : ℕ → Task) (m : ℕ) where
  pub seen_none : SeenAll cores task m 0 no_faults
  seen_none = record { core = clear (left-all _ _ _); time = clear (left-all _ _ _); request = clear (left-all _ _ _) }

  pub seen_task : {i : ℕ} {s r : Faults} {x : Task} → SeenAll cores task m i s → i < m → x ≡ task (i + 1) → r ≡ with_task s (i + 1) cores x
      → SeenAll cores task m (i + 1) r
  unfolding with_task
  seen_task seen h is e =
      rw (e, is) (record { core = seen_next seen.core h; time = seen_next seen.time h; request = seen_next seen.request h })

  -- a task without a fault leaves what was seen
  pub seen_past : {i : ℕ} {s : Faults} {x : Task} → SeenAll cores task m i s → i < m → x ≡ task (i + 1) → task_fault cores x ≡ false → SeenAll cores task m (i + 1) s
  seen_past {i = i} {s = s} {x = x} seen h is none = seen_task seen h is (past s (i + 1) cores x none)

  pub seen_all : {i : ℕ} {s : Faults} → SeenAll cores task m i s → m ≤ i → told_by s ≡ tasks_refusal cores task m
  unfolding told_by tasks_refusal
  seen_all seen h = rw (seen_told seen.core h, seen_told seen.time h, seen_told seen.request h)
