-- The sets of a file's cores. Assumes nothing.
use mathlib.Core.Path.{◌∙◌}
use native.Mathlib.Omega.{arith}
use Rattle.rules.specs.File.{form_in, cores_in}
use Rattle.places.proofs.Places.{records_are}
use Rattle.fields.proofs.Steps.{header-there}
use Rattle.fields.proofs.sets_in.Goals as goal

pub of-header-requires : goal.of-header-requires
of-header-requires c = omega (arith, header-there c.args.file.now c.requires.file_in_bounds)

pub figures-requires : goal.figures-requires
figures-requires c =
    let s = c.args.file.now in
    let cores = rw c.of-header.ensures at c.from.ensures in
    let at = rw c.of-header.ensures at c.sets_at.ensures.value in
    (omega arith, (omega (arith, cores, c.requires.file_bound), (omega (arith, cores, c.requires.file_bound), omega (arith, cores, at, records_are (form_in s) (cores_in s)))))

pub returns : goal.returns
returns c = c.figures.ensures ∙ rw (c.sets_at.ensures.value, c.from.ensures, c.of-header.ensures)
