-- The figures that a core's delays are made of, as times, and how large they get. Assumes nothing.
use Rattle.std.specs.Prelude.{◌*◌, ◌≤◌}
use Rattle.rules.specs.Timing.{Row}
use Rattle.rules.specs.Units.{◌⊕◌, in_time}
use Rattle.rules.specs.Delays.{pre, act, readwrite, reopen, conf, run, window}
use Rattle.delays.specs.declared.Figures.{Figures}

unfoldable pub figures_of : Row → Figures
figures_of w = record {
  crossing = in_time w (pre ⊕ act w ⊕ readwrite w);
  conflict = in_time w (conf w);
  readwrite = in_time w (readwrite w);
  reopen = in_time w (reopen w);
  run = in_time w (run w (window w));
  window = window w;
}

-- at 5000 ps a cycle
pub record FiguresBounded (f : Figures) : Type 0 where
  pub crossing-high : f.crossing.0 ≤ 390 * 5000
  pub conflict-high : f.conflict.0 ≤ 516 * 5000
  pub readwrite-high : f.readwrite.0 ≤ 262 * 5000
  pub reopen-high : f.reopen.0 ≤ 254 * 5000
  pub run-high : f.run.0 ≤ 99710 * 5000
  pub window-high : f.window ≤ 512
