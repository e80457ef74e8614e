-- `delays::figures_of` meets its contract: every figure of a sound row fits as a time. Assumes nothing.
use native.Mathlib.Omega.{arith}
use Rattle.delays.specs.Figures.{figures_of}
use Rattle.delays.proofs.Bounds.{window-high, crossing-fits, conf-fits, readwrite-fits, reopen-fits, run_fits}
use Rattle.delays.proofs.figures_of.Goals as goal

pub run-requires : goal.run-requires
run-requires c = let sound = c.requires in omega (arith, window-high _ sound)

pub in_time-requires-5 : goal.in_time-requires-5
in_time-requires-5 c =
    rw (c.run.ensures, c.window-w.ensures) (run_fits _ c.requires)

pub returns : goal.returns
unfolding figures_of
returns c =
    rw (
      c.in_time-5.ensures,
      c.run.ensures,
      c.in_time-4.ensures,
      c.reopen.ensures,
      c.in_time-3.ensures,
      c.readwrite.ensures,
      c.in_time-2.ensures,
      c.conf.ensures,
      c.in_time.ensures,
      c.crossing.ensures,
      c.window-w.ensures,
    )

pub in_time-requires : goal.in_time-requires
in_time-requires c = rw c.crossing.ensures (crossing-fits _ c.requires)

pub in_time-requires-2 : goal.in_time-requires-2
in_time-requires-2 c = rw c.conf.ensures (conf-fits _ c.requires)

pub in_time-requires-3 : goal.in_time-requires-3
in_time-requires-3 c = rw c.readwrite.ensures (readwrite-fits _ c.requires)

pub in_time-requires-4 : goal.in_time-requires-4
in_time-requires-4 c = rw c.reopen.ensures (reopen-fits _ c.requires)
