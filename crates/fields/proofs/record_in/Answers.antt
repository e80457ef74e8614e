-- A record as a part of the file: the records stand after the header. Assumes nothing.
use Prim.Native.Nat.{◌+◌}
use native.Mathlib.Omega.{arith}
use Rattle.rules.specs.File.{form_in, cores_in}
use Rattle.places.proofs.Places.{sets-limit, after-sets}
use Rattle.fields.proofs.Steps.{part_record}
use Rattle.fields.proofs.record_in.Goals as goal

pub of-header-requires : goal.of-header-requires
of-header-requires c =
    let a = c.args in
    let s = a.file.now in
    omega (arith, after-sets (form_in s) (cores_in s) (a.i + 1), sets-limit (form_in s))

pub returns : goal.returns
returns c = part_record _ _ _ _ (rw c.of-header.ensures at c.record_at-a.ensures.value) (rw c.of-header.ensures at c.record_size.ensures.value)
