-- One task. Assumes nothing.
use mathlib.Core.Path.{◌≡◌, ap, ◌∙◌}
use Prim.Native.Nat.{ℕ, ◌+◌, ◌-◌, ◌<◌}
use native.Mathlib.Omega.{arith}
use Rattle.rounds.specs.Lent.{place_at}
use Rattle.columns.specs.Numbered.{climbed_for}
use Rattle.columns.proofs.Holding.{of_judgeable, of_climbed, tasks_are}
use Rattle.columns.proofs.judge_task.Goals.{Start}
use Rattle.columns.proofs.judge_task.Goals as goal

here : (s : Start) → s.args.k - 1 < s.args.table.tasks
here s = omega (arith, s.requires.within.0.low, s.requires.within.0.high)

pub doubled-doubled-requires : goal.doubled-doubled-requires
doubled-doubled-requires c = (of_judgeable c.args.table c.requires.sound c.lay.ensures).lots

pub judge_at-requires-clause-judgeable : goal.judge_at-requires-clause-judgeable
judge_at-requires-clause-judgeable c = of_judgeable c.args.table c.requires.sound c.lay.ensures

pub judge_at-requires-clause-here : goal.judge_at-requires-clause-here
unfolding place_at
judge_at-requires-clause-here c =
    let held = c.lay.ensures in
    let at = here (goal.at.judge_at-requires-clause-here c).Start in
    (omega (arith, at, tasks_are c.args.table c.requires.sound held), c.place-place.ensures, rw (held.per_task.latest_is (c.args.k - 1) at) c.requires.within.1)

pub returns : goal.returns
returns c =
    let a = c.args in
    let back : a.k - 1 + 1 ≡ a.k = omega (arith, c.requires.within.0.low) in
    c.judge_at.ensures
    ∙ of_climbed a.table c.requires.sound c.lay.ensures (a.k - 1) (here (goal.at.returns c).Start) a.start
    ∙ ap (λ (k : ℕ). climbed_for a.table k a.start) back
