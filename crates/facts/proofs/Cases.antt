-- Points 2 and 3 of a task over any memory, in three statements. Every table's task is such a case. Assumes nothing.
use mathlib.Core.Path.{subst}
use Prim.Native.Nat.{ℕ}
use Rattle.equation.specs.Equation.{Equation, Steps}
use Rattle.equation.specs.Outcome.{Correct}
use Rattle.equation.specs.Rounds.{solve}
use Rattle.equation.specs.Start.{Allowed, FromStart}
use Rattle.equation.specs.Carry.{carried, Carries}
use Rattle.equation.proofs.Points.{point_two, from_start, point_three}
use Rattle.rules.specs.Tasks.{C, latest}
use Rattle.facts.specs.Steady.{Case, equation_of, counts_in, Fit, Worse}
use Rattle.facts.proofs.Memory.{response_equation, response-steps, response_worse}

module _ (c : Case) (fit : Fit c) where
  pub case_equation : Equation (equation_of c) (C c.task)
  case_equation = response_equation fit.steady c.task c.higher fit.exec

  case_steps : Steps (equation_of c) (counts_in c)
  case_steps = response-steps fit.steady c.task c.higher fit.periods

  -- point 2: the verdict from a fresh start is the least solution from 1 to the latest allowed response, or that there is none
  pub case_fresh : Correct (equation_of c) 1 (latest c.task) (solve (equation_of c) (C c.task) (latest c.task) 0).verdict
  case_fresh = (point_two case_equation).0

  -- from a start that is not refused: the least solution at or above it, in the rounds of the equation, at most so many
  pub case_start : (start : ℕ) → Allowed (equation_of c) (C c.task) (latest c.task) start
      → FromStart (equation_of c) (C c.task) (latest c.task) (counts_in c) start
  case_start start allowed = from_start case_equation case_steps allowed

-- point 3: from the older case's bound
pub case_carried : (older newer : Case) → Fit older → Fit newer → Worse older newer
    → Carries (equation_of newer) (C newer.task) (latest newer.task) (counts_in newer)
    (carried (solve (equation_of older) (C older.task) (latest older.task) 0).verdict)
case_carried older newer was is worse =
    point_three (case_equation older was) (case_equation newer is) (case_steps newer is)
    (λ x. response_worse worse.memory (worse.own x) (worse.others x))
    (subst (λ d. Correct (equation_of older) 1 d (solve (equation_of older) (C older.task) (latest older.task) 0).verdict) worse.latest (case_fresh older was))
