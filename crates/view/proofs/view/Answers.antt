-- The record of a task as a part of the file. Assumes nothing.
use mathlib.Core.Path.{◌≡◌, ◌∙◌, sym}
use mathlib.Core.Bool.{true}
use native.Mathlib.Omega.{arith}
use Prim.Native.Nat.{◌+◌, ◌-◌}
use Rattle.rules.specs.Chain.{is_accepted}
use Rattle.rules.specs.File.{form_in, cores_in, tasks_in}
use Rattle.rules.specs.Operations.{check_view}
use Rattle.places.proofs.Places.{record_within, length_is}
use Rattle.facts.proofs.Chain.{asked_err}
use Rattle.view.proofs.Viewing.{view-nothing, view_record, viewed_sized, viewed_task}
use Rattle.view.proofs.view.Goals.{Else-is_err}
use Rattle.view.proofs.view.Goals as goal

passed : (c : Else-is_err) → let a = c.args in is_accepted (check_view a.file.now a.k) ≡ true
passed c = asked_err _ _ c.view_refusal.ensures c.if-is_err.ensures.value

pub returns-then-is_err : goal.returns-then-is_err
returns-then-is_err c = sym (view-nothing _ _ (asked_err _ _ c.view_refusal.ensures c.if-is_err.ensures.value))

pub overflow_sub-from : goal.overflow_sub-from
overflow_sub-from c = omega (arith, c.from.ensures, viewed_task _ _ (passed (goal.at.overflow_sub-from c).Else-is_err))

pub record_in-requires : goal.record_in-requires
record_in-requires c =
    let s = c.args.file.now in
    let was = passed (goal.at.record_in-requires c).Else-is_err in
    let asked = viewed_task _ _ was in
    omega (
      arith,
      c.from.ensures,
      (viewed_sized _ _ was).sized,
      length_is (form_in s) (cores_in s) (tasks_in s),
      record_within (form_in s) (cores_in s) (c.from.result - 1) (tasks_in s) (omega arith),
    )

pub returns : goal.returns
returns c =
    let was = passed (goal.at.returns c).Else-is_err in
    let asked = viewed_task _ _ was in
    let back : c.from.result - 1 + 1 ≡ c.args.k = omega (arith, c.from.ensures) in
    c.record_in.ensures ∙ rw back (sym (view_record _ _ was))
