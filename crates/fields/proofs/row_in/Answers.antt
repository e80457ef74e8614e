-- The timing figures of a file. Assumes nothing.
use mathlib.Core.Path.{◌∙◌}
use Rattle.fields.proofs.Steps.{figures-full}
use Rattle.fields.proofs.row_in.Goals as goal

pub returns : goal.returns
returns c = c.figures.ensures ∙ figures-full _ 4 15
