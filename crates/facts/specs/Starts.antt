-- A start that is not refused, as the theory of `equation` says it. Assumes nothing.
use Rattle.std.specs.Prelude.{ℕ, ◌≤◌, List}
use Rattle.equation.specs.Start.{Allowed}
use Rattle.laws.specs.Idioms.{entry}
use Rattle.rules.specs.declared.Table.{Table}
use Rattle.rules.specs.Tasks.{latest, task_of}
use Rattle.rules.specs.Response.{F}
use Rattle.rules.specs.Judgement.{lowest}

-- the start of task number k is one that the theory allows
abbrev pub AllowedStart : Table → ℕ → ℕ → Type 0
AllowedStart t k start = Allowed (F t k) (lowest t k) (latest (task_of t k)) start

-- none of the starts of its tasks is refused
abbrev pub AllAllowed : Table → List ℕ → Type 0
AllAllowed t starts = (k : ℕ) → 1 ≤ k → k ≤ t.tasks → AllowedStart t k (entry 0 starts k)
