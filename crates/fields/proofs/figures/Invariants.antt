-- A run of figures, place by place. Assumes nothing.
use mathlib.Core.Path.{◌≡◌}
use Rattle.laws.specs.Idioms.{filled}
use Rattle.fields.specs.Places.{figures_in}
use Rattle.fields.proofs.figures.Given as goal

abbrev pub invariant-loop-i : goal.invariant-loop-i
invariant-loop-i g l = l.all ≡ filled g.row.N 0 (figures_in l.file l.at l.i)
