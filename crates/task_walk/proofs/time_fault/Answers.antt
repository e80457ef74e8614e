-- T, D or C is outside its limits. Assumes nothing.
use mathlib.Core.Path.{◌≡◌, ◌∙◌}
use mathlib.Core.Bool.{not, ◌&&◌}
use Rattle.laws.specs.Idioms.{within}
use Rattle.rules.specs.Tasks.{T, D}
use Rattle.rules.specs.Refusals.{time_fault}
use Rattle.chain.proofs.Faults.{one-fault, other_fault}
use Rattle.task_walk.proofs.time_fault.Goals.{Joined-outside, then-outside, else-outside}
use Rattle.task_walk.proofs.time_fault.Goals as goal

two : (c : Joined-outside) → c.if-outside.value ≡ not (within 100000000 1000000000000 (T c.args.x) && within 1 (T c.args.x) (D c.args.x))
two c =
    elim c.if-outside.branch [
      | then-outside w ↦ w.value-is ∙ one-fault _ _ c.outside.ensures w.if-outside.true
      | else-outside w ↦ w.value-is ∙ other_fault _ _ c.outside.ensures w.if-outside.false w.outside-else-outside.ensures
    ]

pub returns-then-outside-2 : goal.returns-then-outside-2
unfolding time_fault
returns-then-outside-2 c = one-fault _ _ (two c.before) c.if-outside-2.true

pub returns-else-outside-2 : goal.returns-else-outside-2
unfolding time_fault
returns-else-outside-2 c = other_fault _ _ (two c.before.before) c.if-outside-2.false c.outside-else-outside-2.ensures
