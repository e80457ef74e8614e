-- Points 2 and 3 for the tasks of accepted tables. Assumes nothing.
use mathlib.Core.Path.{◌≡◌, refl}
use mathlib.Core.Bool.{true}
use Prim.Native.Nat.{ℕ, ◌≤◌}
use native.Mathlib.Omega.{arith}
use Rattle.equation.specs.Outcome as outcome
use Rattle.equation.specs.Start.{FromStart}
use Rattle.equation.specs.Carry.{carried, Carries}
use Rattle.rules.specs.declared.Table.{Table}
use Rattle.rules.specs.declared.Delay.{Delay}
use Rattle.rules.specs.Tasks.{latest, task_of}
use Rattle.rules.specs.Response.{F, decider}
use Rattle.rules.specs.Judgement.{with_delay, lowest, rounds_of, judge, bound_of}
use Rattle.rules.specs.Others.{round_limit}
use Rattle.rules.specs.Order.{worsens}
use Rattle.rules.specs.Chain.{is_accepted}
use Rattle.rules.specs.Refusals.{check_table, check_judged}
use Rattle.rules.specs.Operations.{older_bound}
use Rattle.facts.proofs.Starts.{Judgeable, judged-accepted}
use Rattle.facts.specs.Steady.{counts_in, case_of}
use Rattle.facts.proofs.Cases.{case_fresh, case_start, case_carried}
use Rattle.facts.proofs.Instance.{case_fit, limit_of, case_worse, number-stays}

module _ (t : Table) (accepted : is_accepted (check_table t) ≡ true) (k : ℕ) (low : 1 ≤ k) (high : k ≤ t.tasks) where
  -- point 2: the verdict from a fresh start is the least solution from 1 to D, or that there is none
  pub fresh-right : outcome.Correct (F t k) 1 (latest (task_of t k)) (rounds_of t k 0).verdict
  unfolding rounds_of F lowest
  fresh-right = case_fresh (case_of t k) (case_fit t accepted k low high)

-- from a start that is not refused: the least solution at or above it, in the rounds of the equation, at most so many
module _ (t : Table) (k start : ℕ) (j : Judgeable t k start) where
  pub start_right : FromStart (F t k) (lowest t k) (latest (task_of t k)) (counts_in (case_of t k)) start
  unfolding F lowest
  start_right = case_start (case_of t k) (case_fit t (judged-accepted t j.judged) k j.number.low j.number.high) start j.allowed

  pub start-limit : (rounds_of t k start).rounds ≤ round_limit t k
  unfolding rounds_of
  start-limit = omega (arith, start_right.limit, limit_of t k)

-- the start that the older bound gives
bound-carried : (by : ℕ → Delay) (v : outcome.Outcome) → bound_of (with_delay by v) ≡ carried v
bound-carried by (outcome.found R) = refl
bound-carried by outcome.nothing = refl

older_bound_lem : (t : Table) (k : ℕ) → older_bound t k ≡ carried (rounds_of t k 0).verdict
unfolding older_bound judge
older_bound_lem t k = bound-carried (decider t k) (rounds_of t k 0).verdict

-- point 3: from the older table's bound
module _ (older newer : Table) (was : is_accepted (check_table older) ≡ true) (is : is_accepted (check_table newer) ≡ true)
    (worse : worsens older newer ≡ true) (k : ℕ) (low : 1 ≤ k) (high : k ≤ older.tasks) where
  pub carries : Carries (F newer k) (lowest newer k) (latest (task_of newer k)) (counts_in (case_of newer k)) (older_bound older k)
  unfolding F lowest rounds_of
  carries =
      rw (older_bound_lem older k)
      (case_carried (case_of older k) (case_of newer k)
      (case_fit older was k low high)
      (case_fit newer is k low (number-stays older newer was is worse k low high))
      (case_worse older newer was is worse k low high))

  -- the start is not refused
  pub carried-judgeable : is_accepted (check_judged newer) ≡ true → Judgeable newer k (older_bound older k)
  carried-judgeable judged = record {
    judged = judged;
    number = record { low = low; high = number-stays older newer was is worse k low high };
    allowed = carries.allowed;
  }
