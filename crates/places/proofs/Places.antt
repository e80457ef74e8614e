-- Where the records of a file stand, one after the other, whatever their size. Only `sets-limit` and `record_limit` know the figures. Assumes nothing.
use mathlib.Core.Path.{◌≡◌, refl}
use Prim.Native.Nat.{ℕ, ◌+◌, ◌*◌, ◌-◌, ◌<◌, ◌≤◌}
use native.Mathlib.Nat.{mul-le-mul_left}
use native.Mathlib.Omega.{arith}
use Rattle.rules.specs.File.{sets_at, records_at, record_size, record_at, file_length}

pub sets-limit : (form : ℕ) → (34 ≤ sets_at form) × (sets_at form ≤ 64)
unfolding sets_at
sets-limit form = (omega arith, omega arith)

pub record_limit : (form : ℕ) → (29 ≤ record_size form) × (record_size form ≤ 64)
unfolding record_size
record_limit form = (omega arith, omega arith)

module _ (form cores : ℕ) where
  pub records_are : records_at form cores ≡ sets_at form + 2 * cores
  unfolding records_at
  records_are = refl

  -- whatever the cores, the counts and the timing figures stand before them
  pub records-limit : 34 ≤ records_at form cores
  records-limit = omega (arith, records_are, sets-limit form)

  pub record-place : (i : ℕ) → record_at form cores (i + 1) ≡ records_at form cores + record_size form * i
  unfolding record_at
  record-place i = let e : i + 1 - 1 ≡ i = omega arith in rw e

  -- a record ends where the next one starts, and the records stand after the sets
  pub record_within : (i n : ℕ) → i < n → record_at form cores (i + 1) + record_size form ≤ record_at form cores (n + 1)
  record_within i n h = rw (record-place i, record-place n) (omega (arith, mul-le-mul_left (record_size form) h))

  pub after-sets : (k : ℕ) → sets_at form + 2 * cores ≤ record_at form cores k
  unfolding record_at records_at
  after-sets k = omega arith

  pub length_is : (tasks : ℕ) → file_length form cores tasks ≡ record_at form cores (tasks + 1) + 12
  unfolding file_length
  length_is tasks = rw record-place
