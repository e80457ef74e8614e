-- The salvaged table: its file is read back as it, and the cut file's bytes stand in that file as they stood. Assumes nothing.
use mathlib.Core.Path.{◌≡◌, ◌∙◌}
use mathlib.Core.Bool.{true, false}
use mathlib.Core.List.{List}
use Prim.Native.Nat.{ℕ, ◌+◌, ◌*◌, ◌-◌, ◌≤◌}
use native.Mathlib.Omega.{arith}
use lib.ListN.{length}
use lib.Seq.{take_at}
use Rattle.laws.specs.Idioms.{part}
use Rattle.laws.specs.Bytes.{Bytes}
use Rattle.laws.proofs.Parts.{part_length}
use Rattle.rules.specs.Results.{Read}
use Rattle.rules.specs.Kinds.{marked}
use Rattle.rules.specs.Chain.{accepted, is_accepted}
use Rattle.rules.specs.Refusals.{check_board}
use Rattle.rules.specs.File.{records_at, record_size, record_at, body, encode, record_in, cores_in, form_in, decode}
use Rattle.rules.specs.Operations.{reading}
use Rattle.rules.specs.Salvage.{ends_early, kept, salvaged_table}
use Rattle.places.proofs.Places.{records-limit, record-place, record_within}
use Rattle.kept.proofs.Kept.{kept_reach, salvaged-accepted}
use Rattle.file_claims.specs.Files.{Shape, cleared}
use Rattle.file_claims.proofs.Places.{header}
use Rattle.file_claims.proofs.FromFile.{already_cleared, shape_of_read, body-read}
use Rattle.file_claims.proofs.Files.{return, return_in_place}
use Rattle.kept.proofs.Parts.{parts-agree}
use Rattle.salvage_claims.proofs.MarkedPlaces.{marked-size, marked_record, marked_place}

module _ (s : List ℕ) (board : is_accepted (check_board (decode s)) ≡ true) (some : 1 ≤ kept s) where
  table-shape : Shape (salvaged_table s)
  unfolding salvaged_table
  table-shape = shape_of_read s (marked (form_in s)) (kept s) (salvaged-accepted s board some)

  table-cleared : cleared (salvaged_table s) ≡ salvaged_table s
  unfolding salvaged_table
  table-cleared = already_cleared s (marked (form_in s)) (kept s)

  pub table-read : ◌≡◌ {A = Read} (reading (encode (salvaged_table s))) (record { refusal = accepted; table = salvaged_table s })
  table-read = return.read_written (salvaged_table s) table-shape (salvaged-accepted s board some) ∙ rw table-cleared

  pub table-small : length (encode (salvaged_table s)) ≤ 990
  table-small = return_in_place.room (salvaged_table s) table-shape (salvaged-accepted s board some)

-- ---- its bytes, up to the end of its last record

module _ (s : List ℕ) (late : ends_early s ≡ false) (b : Bytes s) where
  abbrev end : ℕ
  end = record_at (form_in s) (cores_in s) (kept s + 1)

  end_is : end ≡ records_at (form_in s) (cores_in s) + record_size (form_in s) * kept s
  end_is = record-place (form_in s) (cores_in s) (kept s)

  pub same_bytes : part (encode (salvaged_table s)) 4 (end - 4) ≡ part s 4 (end - 4)
  unfolding encode header salvaged_table
  same_bytes =
      let reach = kept_reach s late in
      let limit = records-limit (form_in s) (cores_in s) in
      let written = body-read b (marked (form_in s)) (kept s) (marked_record (form_in s)) (omega (arith, end_is)) in
      rw (written, ← end_is) (take_at (part s 4 (end - 4)) _ (end - 4) (part_length s 4 (end - 4) (omega (arith, end_is))))

  pub same_record : (k : ℕ) → 1 ≤ k → k ≤ kept s → record_in (encode (salvaged_table s)) k ≡ record_in s k
  unfolding encode body salvaged_table record_in
  same_record k low high =
      let e : k - 1 + 1 ≡ k = omega arith in
      let behind = rw e at (record-place (form_in s) (cores_in s) (k - 1)) in
      let inside = rw e at (record_within (form_in s) (cores_in s) (k - 1) (kept s) (omega arith)) in
      let limit = records-limit (form_in s) (cores_in s) in
      rw (marked_place (form_in s) (cores_in s) k, marked-size (form_in s))
      (parts-agree (encode (salvaged_table s)) s 4 (end - 4) same_bytes (record_at (form_in s) (cores_in s) k) (record_size (form_in s)) (omega arith) (omega arith))
