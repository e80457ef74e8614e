-- `put_field` meets its contract: a number, and one byte more. Assumes nothing.
use native.Mathlib.Omega.{arith}
use Rattle.text.proofs.Put.{◌then◌, stored}
use Rattle.text.proofs.put_field.Goals as goal

pub returns : goal.returns
returns c = record { put = c.put_number-end.ensures.put then stored _ _ _; upper_bound = omega arith }
