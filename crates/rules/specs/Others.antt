-- RULES 6.7: the other tasks that have a part in a task's response equation, and the limit that they set on its rounds. Assumes nothing.
use Rattle.std.specs.Prelude.{List, ◌++◌, ℕ, ◌+◌, ◌-◌}
use Rattle.rules.specs.declared.Task.{Task}
use Rattle.rules.specs.declared.Table.{Table}
use Rattle.laws.specs.Idioms.{sum_over}
use Rattle.rules.specs.Tasks.{releases, latest, task_of, core_of, higher, elsewhere}

-- RULES 6.7: the higher tasks of its core, and the tasks elsewhere
abbrev pub others : Table → ℕ → List Task
others t k = higher t k ++ elsewhere t (core_of t k)

-- RULES 6.7: two rounds, and for each other task its periods begun within the latest allowed response of task number k, less one each
abbrev pub round_limit : Table → ℕ → ℕ
round_limit t k = 2 + sum_over (others t k) (λ j. releases j (latest (task_of t k)) - 1)
