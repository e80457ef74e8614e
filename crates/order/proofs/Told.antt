-- A change is told exactly where the newer table is not the older one worsened. Assumes nothing.
use mathlib.Core.Path.{◌≡◌, refl}
use mathlib.Core.Bool.{Bool, true, false, ◌&&◌}
use mathlib.Core.List.{List}
use Prim.Native.Nat.{ℕ, zero, suc, ◌+◌}
use lib.Dec.{eqb}
use Rattle.std.specs.Prelude.{Option, None, Some}
use Rattle.std.specs.Option.{is_none}
use Rattle.rules.specs.declared.Task.{Task}
use Rattle.rules.specs.declared.Table.{Table}
use Rattle.laws.specs.Idioms.{every, from, up_to, entry}
use Rattle.rules.specs.Order.{same_board, worse_task, worsens}
use Rattle.changes.specs.declared.Figure.{Figure}
use Rattle.changes.specs.declared.Change.{Change}
use Rattle.changes.specs.Difference.{◌or_else◌, unless, first_from, first_of, unlike, counts_difference, board_difference, task_difference, tasks_difference, difference}
use Rattle.order.specs.Agrees.{Agrees}

-- a figure, and one change or another
fine_none : (fine : Bool) (what : Figure) (place was is : ℕ) → is_none (unless fine what place was is) ≡ fine
fine_none true what place was is = refl
fine_none false what place was is = refl

both-none : (a b : Option (Change Figure)) → is_none (a or_else b) ≡ is_none a && is_none b
unfolding ◌or_else◌
both-none None b = refl
both-none (Some x) b = refl

-- many places
module _ (d : ℕ → Option (Change Figure)) (fine : ℕ → Bool) (each : (k : ℕ) → is_none (d k) ≡ fine k) where
  from-none : (k n : ℕ) → is_none (first_from d k n) ≡ every fine (from k n)
  unfolding first_from from
  from-none k zero = refl
  from-none k (suc n) = rw (both-none (d k) (first_from d (k + 1) n), each k, from-none (k + 1) n)

  first-none : (n : ℕ) → is_none (first_of d n) ≡ every fine (up_to n)
  first-none n = from-none 1 n

unlike-none : (what : Figure) (n : ℕ) (a b : List ℕ) → is_none (unlike what n a b) ≡ every (λ k. eqb (entry 0 a k) (entry 0 b k)) (up_to n)
unfolding unlike
unlike-none what n a b = first-none _ _ (λ k. fine_none (eqb (entry 0 a k) (entry 0 b k)) what k (entry 0 a k) (entry 0 b k)) n

task-none : (k : ℕ) (i j : Task) → is_none (task_difference k i j) ≡ worse_task i j
unfolding task_difference worse_task
task-none k i j = simp (both-none, fine_none)

board-none : (a b : Table) → is_none (board_difference a b) ≡ same_board a b
unfolding counts_difference board_difference same_board
board-none a b = simp (both-none, fine_none, unlike-none)

pub agrees : Agrees
unfolding difference tasks_difference worsens
agrees older newer = rw (both-none, board-none, first-none _ _ (λ k. task-none k _ _) older.tasks)
