-- A count is outside its limits, or the fourth byte has a bit that no table has. Assumes nothing.
use mathlib.Core.Path.{◌≡◌, ◌∙◌}
use mathlib.Core.Bool.{not, ◌&&◌}
use Rattle.laws.specs.Idioms.{within}
use Rattle.rules.specs.Kinds.{fourth_allowed}
use Rattle.rules.specs.Refusals.{counts_fault}
use Rattle.chain.proofs.Faults.{one-fault, other_fault, not_less}
use Rattle.limits.proofs.counts_fault.Goals.{Joined-outside, Joined-outside-2, then-outside, else-outside, then-outside-2, else-outside-2}
use Rattle.limits.proofs.counts_fault.Goals as goal

two : (c : Joined-outside) → c.if-outside.value ≡ not (within 1 8 c.args.cores && within 1 16 c.args.partitions)
two c =
    elim c.if-outside.branch [
      | then-outside w ↦ w.value-is ∙ one-fault _ _ c.outside.ensures w.if-outside.true
      | else-outside w ↦ w.value-is ∙ other_fault _ _ c.outside.ensures w.if-outside.false w.outside-else-outside.ensures
    ]

three : (c : Joined-outside-2) → c.if-outside-2.value ≡ not (within 1 8 c.args.cores && within 1 16 c.args.partitions && within 1 32 c.args.tasks)
three c =
    elim c.if-outside-2.branch [
      | then-outside-2 w ↦ w.value-is ∙ one-fault _ _ (two c.before) w.if-outside-2.true
      | else-outside-2 w ↦ w.value-is ∙ other_fault _ _ (two c.before) w.if-outside-2.false w.outside-else-outside-2.ensures
    ]

pub returns-then-outside-3 : goal.returns-then-outside-3
unfolding counts_fault
returns-then-outside-3 c = one-fault _ _ (three c.before) c.if-outside-3.true

pub returns-else-outside-3 : goal.returns-else-outside-3
unfolding counts_fault fourth_allowed
returns-else-outside-3 c = other_fault _ _ (three c.before) c.if-outside-3.false (not_less 4 c.args.fourth)
