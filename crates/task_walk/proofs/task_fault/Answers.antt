-- One of 9, 10 and 11 finds a fault. Assumes nothing.
use mathlib.Core.Path.{◌≡◌, ◌∙◌}
use mathlib.Core.Bool.{Bool, true, false, ◌||◌}
use Rattle.rules.specs.Refusals.{core_fault, time_fault, request_fault}
use Rattle.rules.specs.Salvage.{task_fault}
use Rattle.task_walk.proofs.task_fault.Goals.{Joined-core_fault, then-core_fault, else-core_fault}
use Rattle.task_walk.proofs.task_fault.Goals as goal

module _ {v : Bool} where
  -- the first of two, or else the second
  first-fault : (a b : Bool) → v ≡ a → v ≡ true → v ≡ a || b
  first-fault true b e h = e
  first-fault false b e h = absurd cc

  second-fault : (a b : Bool) → v ≡ a → v ≡ false → {r : Bool} → r ≡ b → r ≡ a || b
  second-fault false b e h r = r
  second-fault true b e h r = absurd cc

-- three are two and one
regroup : (a b c : Bool) {r : Bool} → r ≡ (a || b) || c → r ≡ a || b || c
regroup true b c e = e
regroup false b c e = e

two : (c : Joined-core_fault) → c.if-core_fault.value ≡ core_fault c.args.cores c.args.x || time_fault c.args.x
two c =
    elim c.if-core_fault.branch [
      | then-core_fault w ↦ w.value-is ∙ first-fault _ _ c.core_fault.ensures w.if-core_fault.true
      | else-core_fault w ↦ w.value-is ∙ second-fault _ _ c.core_fault.ensures w.if-core_fault.false w.time_fault.ensures
    ]

pub returns-then-time_fault : goal.returns-then-time_fault
unfolding task_fault
returns-then-time_fault c = let x = c.args.x in
    regroup (core_fault c.args.cores x) (time_fault x) (request_fault x) (first-fault _ _ (two c.before) c.if-time_fault.true)

pub returns-else-time_fault : goal.returns-else-time_fault
unfolding task_fault
returns-else-time_fault c = let x = c.args.x in
    regroup (core_fault c.args.cores x) (time_fault x) (request_fault x) (second-fault _ _ (two c.before.before) c.if-time_fault.false c.request_fault.ensures)
