-- Where a record starts: the sets, then as many records as stand before it. Assumes nothing.
use Prim.Native.Nat.{◌*◌, ◌≤◌}
use native.Mathlib.Nat.{mul-le-mul}
use native.Mathlib.Omega.{arith}
use Rattle.places.proofs.Places.{records_are, record-place}
use Rattle.places.proofs.record_at.Goals.{After-record_size}
use Rattle.places.proofs.record_at.Goals as goal

records : (c : After-record_size) → c.record_size.result * c.args.i ≤ 16320
records c = mul-le-mul {n₂ = 64} {m₂ = 255} c.record_size.ensures.upper_bound (omega arith)

pub returns : goal.returns
returns c = record { value = rw (c.record_size.ensures.value, c.from.ensures, c.sets_at.ensures.value, record-place, records_are); upper_bound = omega (arith, records c) }

pub overflow_mul-result-2 : goal.overflow_mul-result-2
overflow_mul-result-2 c = omega (arith, records c)

pub overflow_add-result-2 : goal.overflow_add-result-2
overflow_add-result-2 c = omega (arith, records c)
