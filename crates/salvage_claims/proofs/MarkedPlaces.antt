-- Bit 1 of the fourth byte moves nothing in a file: a byte with it set gives the places of the byte without it. Assumes nothing.
use mathlib.Core.Path.{◌≡◌, refl}
use Prim.Native.Nat.{ℕ}
use Rattle.rules.specs.Kinds.{marked}
use Rattle.rules.specs.File.{sets_at, records_at, record_size, record_at, record_bytes}

module _ (form : ℕ) where
  marked-sets : sets_at (marked form) ≡ sets_at form
  unfolding sets_at
  marked-sets = refl

  pub marked-size : record_size (marked form) ≡ record_size form
  unfolding record_size
  marked-size = refl

  pub marked_record : record_bytes (marked form) ≡ record_bytes form
  unfolding record_bytes
  marked_record = refl

  pub marked_place : (cores k : ℕ) → record_at (marked form) cores k ≡ record_at form cores k
  unfolding record_at records_at
  marked_place cores k = rw (marked-sets, marked-size)
