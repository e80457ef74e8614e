-- Which records of a cut file fit: the first ones, and at least one. Assumes nothing.
use mathlib.Core.Path.{◌≡◌}
use mathlib.Core.List.{List}
use Prim.Native.Nat.{ℕ, ◌+◌, ◌-◌, ◌/◌, ◌≤◌, ◌<◌}
use native.Mathlib.Nat.{le-div_iff_mul-le, mul-div-le, lt-mul-div-succ}
use native.Mathlib.Omega.{arith}
use Rattle.rules.specs.File.{records_at, record_size, record_at, cores_in, tasks_in, form_in}
use Rattle.places.proofs.Places.{record_limit, record-place, record_within}
use Rattle.salvage_claims.specs.Cut.{CutFile, fitting}

module _ (s : List ℕ) (n : ℕ) (c : CutFile s n) where
  abbrev form : ℕ
  form = form_in s

  abbrev cores : ℕ
  cores = cores_in s

  -- how many have room, however many there are
  abbrev room : ℕ
  room = (n - records_at form cores) / record_size form

  some_size : 0 < record_size form
  some_size = omega (arith, record_limit form)

  pub first_fits : records_at form cores + record_size form ≤ n
  first_fits = omega (arith, c.first_record, record-place form cores 1)

  pub some_fit : 1 ≤ tasks_in s → 1 ≤ fitting s n
  some_fit some = let one : 1 ≤ room = (le-div_iff_mul-le some_size).1 (omega (arith, first_fits)) in omega arith

  pub fits : (i : ℕ) → i < fitting s n → record_at form cores (i + 1) + record_size form ≤ n
  fits i less =
      let inside = record_within form cores i room (omega arith) in
      omega (arith, inside, record-place form cores room, mul-div-le (n - records_at form cores) (record_size form), first_fits)

  pub next-cut : fitting s n < tasks_in s → n < record_at form cores (fitting s n + 1) + record_size form
  next-cut less =
      let all : fitting s n ≡ room = omega arith in
      rw all (omega (arith, lt-mul-div-succ (n - records_at form cores) some_size, record-place form cores room))
