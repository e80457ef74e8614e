-- The tasks of a file, place by place. Assumes nothing.
use mathlib.Core.Path.{◌≡◌}
use Rattle.laws.specs.Idioms.{filled}
use Rattle.rules.specs.Tasks.{no_task}
use Rattle.contents.specs.Tasks.{tasks_to}
use Rattle.contents.proofs.put_tasks.Given as goal

abbrev pub invariant-loop-i : goal.invariant-loop-i
invariant-loop-i l = l.all ≡ filled 32 no_task (tasks_to l.file l.i)
