-- `runs::run` meets its contract. Assumes nothing.
use mathlib.Core.Path.{◌≡◌}
use mathlib.Core.Logic.{◌≢◌}
use borrow.Author.Tests.{ne_eqb}
use native.Mathlib.Omega.{arith}
use Rattle.rules.specs.Delays.{run}
use Rattle.runs.proofs.run.Goals as goal

pub returns-then-m-eq0 : goal.returns-then-m-eq0
unfolding run
returns-then-m-eq0 c =
    let none : c.args.m ≡ 0 = omega arith in
    rw none

pub returns : goal.returns
unfolding run
returns c =
    let some : c.args.m ≢ 0 = omega arith in
    simp (ne_eqb _ 0 some)
    (rw (
      c.saturating_sub.ensures,
      c.figure-3.ensures.0,
      c.figure-2.ensures.0,
      c.figure.ensures.0,
      c.turn.ensures.0,
    ))
