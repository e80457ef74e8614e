-- RULES 6.4: a table worsened. Only used places are compared (RULES 2.7). Assumes nothing.
use Rattle.std.specs.Prelude.{Bool, ◌&&◌, leb, eqb}
use Rattle.rules.specs.declared.Task.{Task}
use Rattle.rules.specs.declared.Table.{Table}
use Rattle.laws.specs.Idioms.{every, up_to, entry}
use Rattle.rules.specs.Tasks.{C, T, D, H, task_of}
use Rattle.rules.specs.Cores.{set_of}

-- RULES 6.4: the same in all but the tasks
unfoldable pub same_board : Table → Table → Bool
same_board a b =
    eqb a.cores b.cores
    && eqb a.partitions b.partitions
    && eqb a.tasks b.tasks
    && eqb a.fourth b.fourth
    && every (λ k. eqb (entry 0 a.timing k) (entry 0 b.timing k)) (up_to 15)
    && every (λ p. eqb (set_of a p) (set_of b p)) (up_to a.cores)

-- RULES 6.4: the same task with C and H as they were or raised, and T as it was or shortened
unfoldable pub worse_task : Task → Task → Bool
worse_task i j = eqb i.core j.core && eqb (D i) (D j) && leb (C i) (C j) && leb (H i) (H j) && leb (T j) (T i)

-- RULES 6.4
unfoldable pub worsens : Table → Table → Bool
worsens older newer =
    same_board older newer && every (λ k. worse_task (task_of older k) (task_of newer k)) (up_to older.tasks)
