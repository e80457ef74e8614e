-- `of_answers` meets its contract: the tasks after the first i decide. Assumes nothing.
use mathlib.Core.Path.{◌≡◌, ◌∙◌, sym, ap}
use mathlib.Core.Bool.{not}
use Prim.Native.Nat.{◌+◌, ◌-◌}
use native.Mathlib.Omega.{arith}
use Rattle.laws.proofs.Every.{rest-fails, rest-next, rest-done}
use Rattle.status.specs.Status.{held, all_hold}
use Rattle.status.proofs.of_answers.Goals as goal

pub returns-then-is_miss : goal.returns-then-is_miss
unfolding all_hold
returns-then-is_miss c =
    let less : c.loop-i.i + 1 - 1 ≡ c.loop-i.i = omega arith in
    rw (← rest-fails (held c.args.answers) c.args.tasks c.loop-i.i c.loop-i.invariant (omega arith) (rw less (ap not (sym c.is_miss.ensures ∙ c.if-is_miss.true))))

pub loop-i-preserved : goal.loop-i-preserved
loop-i-preserved c =
    let less : c.loop-i.i + 1 - 1 ≡ c.loop-i.i = omega arith in
    rest-next (held c.args.answers) c.args.tasks c.loop-i.i c.loop-i.invariant (omega arith) (rw less (ap not (sym c.is_miss.ensures ∙ c.if-is_miss.false)))

pub returns : goal.returns
unfolding all_hold
returns c = rw (← rest-done (held c.args.answers) c.args.tasks c.loop-i.i c.loop-i.invariant (omega arith))
