-- The tasks of a file, one after the other. Assumes nothing.
use Rattle.std.specs.Prelude.{ℕ, List, map}
use Rattle.rules.specs.declared.Task.{Task}
use Rattle.laws.specs.Idioms.{up_to}
use Rattle.rules.specs.File.{record_task, record_in}

-- tasks 1 to n
abbrev pub tasks_to : List ℕ → ℕ → List Task
tasks_to s n = map (λ k. record_task (record_in s k)) (up_to n)
