-- RULES 6.8: which figure keeps a newer table from being the older one worsened: the first at fault, with its place and what it was and is:
--     Cores, Partitions, Tasks, Fourth           the number of cores, of partitions, of tasks, and the fourth byte: place 0
--     Timing                                     a timing figure: places 1 to 15
--     Set                                        the set of a core: places 1 to the number of cores
--     Core, Deadline, Exec, Requests, Period     a task's core, deadline, execution time, request count and period: of the first task at fault, the first of these
-- Assumes nothing.
use Rattle.std.specs.Prelude.{ℕ, zero, suc, ◌+◌, Bool, cond, List, leb, eqb, Option, None, Some}
use Rattle.std.specs.Option.{option_or}
use Rattle.rules.specs.declared.Task.{Task}
use Rattle.rules.specs.declared.Table.{Table}
use Rattle.laws.specs.Idioms.{entry}
use Rattle.rules.specs.Tasks.{C, T, D, H, task_of}
use Rattle.changes.specs.declared.Figure.{Figure}
use Rattle.changes.specs.declared.Figure.TheVariants.{Cores, Partitions, Tasks, Fourth, Timing, Set, Core, Deadline, Exec, Requests, Period}
use Rattle.changes.specs.declared.Change.{Change}

-- the first, unless it is none
infixl 20 ◌or_else◌
unfoldable pub ◌or_else◌ : {A : Type 0} → Option A → Option A → Option A
a or_else b = option_or a b

-- the first of n places from k on, and of places 1 to n
unfoldable pub first_from : {A : Type 0} → (ℕ → Option A) → ℕ → ℕ → Option A
first_from d k zero = None
first_from d k (suc n) = d k or_else first_from d (k + 1) n

abbrev pub first_of : {A : Type 0} → (ℕ → Option A) → ℕ → Option A
first_of d n = first_from d 1 n

-- a figure at fault, unless it is fine
abbrev pub unless : {W : Type 0} → Bool → W → ℕ → ℕ → ℕ → Option (Change W)
unless fine what place was is = cond fine None (Some (record { what = what; place = place; was = was; is = is }))

-- one that must stay as it was; one that may not get lower; one that may not get longer
abbrev pub unequal : {W : Type 0} → W → ℕ → ℕ → ℕ → Option (Change W)
unequal what place was is = unless (eqb was is) what place was is

abbrev pub lower : {W : Type 0} → W → ℕ → ℕ → ℕ → Option (Change W)
lower what place was is = unless (leb was is) what place was is

abbrev pub longer : {W : Type 0} → W → ℕ → ℕ → ℕ → Option (Change W)
longer what place was is = unless (leb is was) what place was is

-- the first of places 1 to n at which two lists are not equal
unfoldable pub unlike : {W : Type 0} → W → ℕ → List ℕ → List ℕ → Option (Change W)
unlike what n a b = first_of (λ k. unequal what k (entry 0 a k) (entry 0 b k)) n

-- the counts and the fourth byte
unfoldable pub counts_difference : Table → Table → Option (Change Figure)
counts_difference older newer =
    unequal Cores 0 older.cores newer.cores
    or_else unequal Partitions 0 older.partitions newer.partitions
    or_else unequal Tasks 0 older.tasks newer.tasks
    or_else unequal Fourth 0 older.fourth newer.fourth

-- and then the timing figures and the sets of the cores
unfoldable pub board_difference : Table → Table → Option (Change Figure)
board_difference older newer =
    counts_difference older newer
    or_else unlike Timing 15 older.timing newer.timing
    or_else unlike Set older.cores older.sets newer.sets

-- of task number k, which was i and is j
unfoldable pub task_difference : ℕ → Task → Task → Option (Change Figure)
task_difference k i j =
    unequal Core k i.core j.core
    or_else unequal Deadline k (D i) (D j)
    or_else lower Exec k (C i) (C j)
    or_else lower Requests k (H i) (H j)
    or_else longer Period k (T i) (T j)

-- of the first task at fault
unfoldable pub tasks_difference : Table → Table → Option (Change Figure)
tasks_difference older newer = first_of (λ k. task_difference k (task_of older k) (task_of newer k)) older.tasks

unfoldable pub difference : Table → Table → Option (Change Figure)
difference older newer = board_difference older newer or_else tasks_difference older newer
