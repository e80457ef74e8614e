-- The part that a record is and its task, and one figure more of a file, as the loop that reads them stores it. Assumes nothing.
use mathlib.Core.Path.{◌≡◌, sym}
use mathlib.Core.List.{List, append-nil}
use Prim.Native.Nat.{ℕ, ◌+◌, ◌*◌, ◌-◌, ◌<◌, ◌≤◌}
use native.Mathlib.Nat.{add-sub_cancel_left}
use native.Mathlib.Omega.{arith}
use lib.ListN.{length, set, take, drop}
use Rattle.rules.specs.Tasks.{no_task, task_of}
use Rattle.rules.specs.File.{records_at, record_size, record_at, record_in, record_task, cores_in, tasks_in, form_in, decode}
use Rattle.laws.specs.Idioms.{filled, number_in, part}
use Rattle.laws.proofs.Places.{place_of}
use Rattle.laws.proofs.Parts.{part_length}
use Rattle.laws.proofs.Fill.{fill_step}
use Rattle.laws.proofs.Runs.{map-below-next, length-map-from}
use Rattle.places.proofs.Places.{record_limit, records_are, records-limit, record_within, after-sets, length_is}
use Rattle.fields.specs.Places.{Sized, figures_in}

module _ (s : List ℕ) where
  pub figures-length : (at n : ℕ) → length (figures_in s at n) ≡ n
  figures-length at n = length-map-from (λ k. number_in (part s (at + 2 * k) 2)) n 0

  pub figure-next : (at n i : ℕ) → i < n → set (filled n 0 (figures_in s at i)) i (number_in (part s (at + 2 * i) 2)) ≡ filled n 0 (figures_in s at (i + 1))
  figure-next at n i h =
      let f : ℕ → ℕ = λ k. number_in (part s (at + 2 * k) 2) in
      rw (map-below-next f i) (fill_step n 0 (figures_in s at i) i (f i) (figures-length at i) h)

  pub figures-full : (at n : ℕ) → filled n 0 (figures_in s at n) ≡ figures_in s at n
  figures-full at n = let none : n - length (figures_in s at n) ≡ 0 = omega (arith, figures-length at n) in rw (none, append-nil)

  -- the part where record k starts, as code takes it; its figures are in it
  pub part_record : (a size k : ℕ) → a ≡ record_at (form_in s) (cores_in s) k → size ≡ record_size (form_in s) → take (a + size - a) (drop a s) ≡ record_in s k
  unfolding record_in
  part_record a size k e f = rw (add-sub_cancel_left, e, f)

  pub record_long : (k : ℕ) → record_at (form_in s) (cores_in s) k + record_size (form_in s) ≤ length s → 29 ≤ length (record_in s k)
  unfolding record_in
  record_long k h = rw (part_length s (record_at (form_in s) (cores_in s) k) (record_size (form_in s)) h) (record_limit (form_in s)).0

  -- before the end of the sets stand the counts and the timing figures
  pub header-there : records_at (form_in s) (cores_in s) ≤ length s → 34 ≤ length s
  header-there h = omega (arith, records-limit (form_in s) (cores_in s))

  -- the sets and the records of a file that is as long as its header says lie within it
  pub records-end : Sized s → record_at (form_in s) (cores_in s) (tasks_in s + 1) ≤ length s
  records-end z = omega (arith, z.sized, length_is (form_in s) (cores_in s) (tasks_in s))

  pub record_ends : (i : ℕ) → i < tasks_in s → Sized s → record_at (form_in s) (cores_in s) (i + 1) + record_size (form_in s) ≤ length s
  record_ends i here z = omega (arith, records-end z, record_within (form_in s) (cores_in s) i (tasks_in s) here)

  pub sets_end : Sized s → records_at (form_in s) (cores_in s) ≤ length s
  sets_end z = omega (arith, records-end z, records_are (form_in s) (cores_in s), after-sets (form_in s) (cores_in s) (tasks_in s + 1))

  -- a record is a task of the table
  pub task_is : (i : ℕ) → i < tasks_in s → record_task (record_in s (i + 1)) ≡ task_of (decode s) (i + 1)
  unfolding decode
  task_is i here = sym (place_of no_task (λ k. record_task (record_in s k)) 32 (tasks_in s) (i + 1) (omega arith) (omega arith))
