-- What points 2 and 3 say of the answers to all tasks: fresh, and of a newer table from the older one's bounds. Assumes nothing.
use Rattle.std.specs.Prelude.{ℕ, ◌≤◌, ◌≡◌, true, List, Result, Ok}
use Rattle.rules.specs.declared.Table.{Table}
use Rattle.rules.specs.declared.Answer.{Answer}
use Rattle.rules.specs.declared.Refusal.{Refusal}
use Rattle.rules.specs.declared.Rejudgement.{Rejudgement}
use Rattle.rules.specs.declared.CarryRefusal.{CarryRefusal}
use Rattle.claims.specs.Point2.{task_answer, Right}
use Rattle.claims.specs.Point3.{AnsweredFromOlder}

-- point 2, of each task: nothing is refused, and its verdict is right where solutions are looked for from 1 to its deadline
pub record JudgedRight (t : Table) (r : Result (List Answer) Refusal) : Type 0 where
  pub answers : List Answer
  pub not_refused : r ≡ Ok answers
  pub each : (k : ℕ) → 1 ≤ k → k ≤ t.tasks → Right t k 1 (task_answer k answers).verdict

-- point 3, of each task of the newer table
pub record CarriedRight (older newer : Table) (r : Result Rejudgement CarryRefusal) : Type 0 where
  pub judged : Rejudgement
  pub not_refused : r ≡ Ok judged
  pub carried : judged.carried ≡ true
  pub each : (k : ℕ) → 1 ≤ k → k ≤ newer.tasks → AnsweredFromOlder older newer k (task_answer k judged.answers)
