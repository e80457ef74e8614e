-- Points 2 and 3 of a task over any memory: any delay for one request, and any job delay that never falls as the time grows or as tasks worsen, and
-- steps only where the count of a higher task of the core or of a task elsewhere does (`Fit`, `Worse` in facts/specs/Steady.antt). This is shown once;
-- the points of a table's tasks (`Point2`, `Point3`) are this, whether the table is of DRAM or of a bus. Assumes nothing.
use Rattle.std.specs.Prelude.{ℕ, ◌≤◌}
use Rattle.equation.specs.Outcome.{Correct}
use Rattle.equation.specs.Rounds.{solve}
use Rattle.equation.specs.Start.{Allowed, FromStart}
use Rattle.equation.specs.Carry.{carried, Carries}
use Rattle.rules.specs.declared.Table.{Table}
use Rattle.rules.specs.Tasks.{C, latest}
use Rattle.facts.specs.Steady.{Case, equation_of, counts_in, case_of, Fit, Worse}
use Rattle.claims.specs.Point2.{JudgedTask}
use Rattle.claims.specs.Point3.{NewerWorse}

pub record AnyMemory : Type 0 where
  -- fresh: the least solution from 1 to the latest allowed response, or that there is none
  pub fresh : (c : Case) → Fit c → Correct (equation_of c) 1 (latest c.task) (solve (equation_of c) (C c.task) (latest c.task) 0).verdict
  -- from a start that is not refused: the least solution at or above it, the rounds of the equation, and their limit
  pub from_start : (c : Case) → Fit c → (start : ℕ) → Allowed (equation_of c) (C c.task) (latest c.task) start
      → FromStart (equation_of c) (C c.task) (latest c.task) (counts_in c) start
  -- from the bound of an older case, or 0 where it missed: such a start, the fresh verdict, and no more rounds than fresh
  pub from_older : (older newer : Case) → Fit older → Fit newer → Worse older newer
      → Carries (equation_of newer) (C newer.task) (latest newer.task) (counts_in newer)
      (carried (solve (equation_of older) (C older.task) (latest older.task) 0).verdict)
  -- every task of a table that may be judged is such a case, and so are those of two tables of which the newer is the older one worsened
  pub of_table : (t : Table) (k : ℕ) → JudgedTask t k → Fit (case_of t k)
  pub of_two-tables : (older newer : Table) → NewerWorse older newer → (k : ℕ) → 1 ≤ k → k ≤ older.tasks → Worse (case_of older k) (case_of newer k)
