-- What a file's header shows where the file is accepted: how many tasks it has, and where a task's record starts. Assumes nothing.
use Rattle.std.specs.Prelude.{cond, List, ℕ}
use Rattle.rules.specs.Chain.{is_accepted}
use Rattle.rules.specs.File.{cores_in, tasks_in, form_in, record_at}
use Rattle.rules.specs.Operations.{check_file, check_view}

-- how many tasks a file has; 0, which is the count of no accepted file, where reading refuses it
unfoldable pub task_count : List ℕ → ℕ
task_count s = cond (is_accepted (check_file s)) (tasks_in s) 0

-- where a task's record starts (RULES 7.2); 0, where no record starts, if viewing refuses it
unfoldable pub record_place : List ℕ → ℕ → ℕ
record_place s task = cond (is_accepted (check_view s task)) (record_at (form_in s) (cores_in s) task) 0
