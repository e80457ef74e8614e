-- What a cut behind the sets leaves of a file as it was: its counts, what stands before the cut, and so its board. Assumes nothing.
use mathlib.Core.Path.{◌≡◌, ap}
use mathlib.Core.List.{List}
use Prim.Native.Nat.{ℕ, ◌+◌, ◌*◌, ◌≤◌, ◌<◌}
use native.Mathlib.Omega.{arith}
use lib.ListN.{length, take, get_or}
use lib.Seq.{length-take-le, take-take, get_or-take}
use Rattle.laws.specs.Idioms.{filled, number_in, part}
use Rattle.rules.specs.Refusals.{check_board}
use Rattle.rules.specs.File.{sets_at, records_at, record_size, record_at, record_in, cores_in, partitions_in, tasks_in, form_in, decode}
use Rattle.places.proofs.Places.{records_are, records-limit}
use Rattle.kept.proofs.Parts.{parts-agree, row-agree}

module _ (s : List ℕ) (n : ℕ) (within : n ≤ length s) (reaches : records_at (form_in s) (cores_in s) ≤ n) where
  pub cut-length : length (take n s) ≡ n
  cut-length = length-take-le n s within

  header-cut : (i : ℕ) → i < 4 → get_or (take n s) i 0 ≡ get_or s i 0
  header-cut i low = get_or-take n s i 0 (omega (arith, records-limit (form_in s) (cores_in s)))

  pub cores-cut : cores_in (take n s) ≡ cores_in s
  cores-cut = header-cut 0 (omega arith)

  pub partitions-cut : partitions_in (take n s) ≡ partitions_in s
  partitions-cut = header-cut 1 (omega arith)

  pub tasks-cut : tasks_in (take n s) ≡ tasks_in s
  tasks-cut = header-cut 2 (omega arith)

  pub form-cut : form_in (take n s) ≡ form_in s
  form-cut = header-cut 3 (omega arith)

  part_cut : (at k : ℕ) → at + k ≤ n → part (take n s) at k ≡ part s at k
  part_cut at k h = parts-agree (take n s) s 0 n (take-take n n s (omega arith)) at k (omega arith) (omega arith)

  pub record_cut : (k : ℕ) → record_at (form_in s) (cores_in s) k + record_size (form_in s) ≤ n → record_in (take n s) k ≡ record_in s k
  unfolding record_in
  record_cut k h = rw (form-cut, cores-cut) (part_cut (record_at (form_in s) (cores_in s) k) (record_size (form_in s)) h)

  pub figures-cut : (decode (take n s)).timing ≡ (decode s).timing
  unfolding decode
  figures-cut =
      row-agree 0 15
      (λ k less. ap number_in (part_cut (4 + 2 * k) 2 (omega (arith, records-limit (form_in s) (cores_in s)))))

  pub sets-cut : (decode (take n s)).sets ≡ (decode s).sets
  unfolding decode
  sets-cut =
      rw (form-cut, cores-cut)
      (ap (filled 8 0)
      (row-agree 0 (cores_in s)
      (λ k less. ap number_in (part_cut (sets_at (form_in s) + 2 * k) 2 (omega (arith, records_are (form_in s) (cores_in s)))))))

  pub board-cut : check_board (decode (take n s)) ≡ check_board (decode s)
  unfolding check_board decode
  board-cut = rw (figures-cut, sets-cut, cores-cut, partitions-cut, tasks-cut, form-cut)
