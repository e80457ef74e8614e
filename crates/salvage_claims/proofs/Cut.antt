-- Of an accepted file that was cut behind its first record every record that fits is kept, and salvaging is not refused. Assumes nothing.
use mathlib.Core.Path.{◌≡◌}
use mathlib.Core.Bool.{true, false}
use mathlib.Core.List.{List}
use Prim.Native.Nat.{ℕ, ◌+◌, ◌-◌, ◌≤◌, ◌<◌}
use native.Mathlib.Omega.{arith}
use lib.ListN.{length, take}
use borrow.Author.Tests.{le-ltb}
use Rattle.rules.specs.Chain.{is_accepted}
use Rattle.rules.specs.Refusals.{check_board, check_tasks, check_table}
use Rattle.rules.specs.File.{records_at, record_size, record_at, cores_in, tasks_in, form_in, decode}
use Rattle.rules.specs.Operations.{check_file}
use Rattle.rules.specs.Salvage.{ends_early, is_sound, kept, salvaging}
use Rattle.facts.proofs.Chain.{both-accepted}
use Rattle.facts.proofs.Accepted.{sound}
use Rattle.facts.proofs.Reading.{refusal_read, decoded_accepted}
use Rattle.kept.proofs.Leading.{leading_is}
use Rattle.kept.proofs.Sound.{cut_off, by_fault}
use Rattle.file_claims.proofs.Files.{point_one}
use Rattle.salvage_claims.specs.NewFile.{Succeeds}
use Rattle.salvage_claims.specs.Cut.{CutFile, fitting, TakenBack, Cut}
use Rattle.salvage_claims.proofs.Passed.{passes}
use Rattle.salvage_claims.proofs.SalvagedTable.{table-small}
use Rattle.salvage_claims.proofs.Faultless.{record_faultless}
use Rattle.salvage_claims.proofs.Fitting.{first_fits, some_fit, fits, next-cut}
use Rattle.kept.proofs.CutParts.{cut-length, cores-cut, tasks-cut, form-cut, record_cut, board-cut}

module _ (s : List ℕ) (n : ℕ) (c : CutFile s n) where
  table-accepted : is_accepted (check_table (decode s)) ≡ true
  table-accepted = decoded_accepted s (rw (refusal_read s) at c.accepted)

  within : n ≤ length s
  within = omega (arith, c.cut)

  reaches : records_at (form_in s) (cores_in s) ≤ n
  reaches = omega (arith, first_fits s n c)

  -- ---- the records that fit are those that are kept

  -- where a record ends, by the bytes that are left
  end-cut : (k : ℕ)
      → record_at (form_in (take n s)) (cores_in (take n s)) k + record_size (form_in (take n s)) ≡ record_at (form_in s) (cores_in s) k + record_size (form_in s)
  end-cut k = rw (form-cut s n within reaches, cores-cut s n within reaches)

  sound-before : (i : ℕ) → i < fitting s n → is_sound (take n s) (1 + i) ≡ true
  sound-before i less =
      let e : 1 + i ≡ i + 1 = omega arith in
      let whole = by_fault (take n s) (i + 1) (omega (arith, end-cut (i + 1), fits s n c i less, cut-length s n within reaches)) in
      let faultless = record_faultless s table-accepted (i + 1) (omega arith) (omega arith) in
      rw (e, ← whole, cores-cut s n within reaches, record_cut s n within reaches (i + 1) (fits s n c i less), faultless)

  unsound_next : fitting s n < tasks_in s → is_sound (take n s) (1 + fitting s n) ≡ false
  unsound_next less =
      let e : 1 + fitting s n ≡ fitting s n + 1 = omega arith in
      rw (e, ← cut_off (take n s) (fitting s n + 1) (omega (arith, end-cut (fitting s n + 1), next-cut s n c less, cut-length s n within reaches)))

  kept-cut : kept (take n s) ≡ fitting s n
  unfolding kept
  kept-cut = rw (tasks-cut s n within reaches) (leading_is (is_sound (take n s)) (tasks_in s) (fitting s n) (omega arith) sound-before unsound_next)

  some-kept : 1 ≤ kept (take n s)
  unfolding decode
  some-kept = rw kept-cut (some_fit s n c (sound (decode s) table-accepted).tasks-in.low)

  -- ---- and nothing is refused

  refused-cut : is_accepted (check_file (take n s)) ≡ false
  refused-cut = rw (refusal_read (take n s)) at (point_one.read.cut_short s c.accepted n c.cut)

  late-cut : ends_early (take n s) ≡ false
  unfolding ends_early
  late-cut = rw (form-cut s n within reaches, cores-cut s n within reaches, cut-length s n within reaches) (le-ltb n (records_at (form_in s) (cores_in s)) reaches)

  board-passed : is_accepted (check_board (decode (take n s))) ≡ true
  unfolding check_table
  board-passed = rw (board-cut s n within reaches) (both-accepted (check_board (decode s)) (check_tasks (decode s)) table-accepted).0

  module _ (out : List ℕ) (long : 990 ≤ length out) where
    done : Succeeds (take n s) out
    done = passes (take n s) out (record {
      refused_file = refused-cut;
      late = late-cut;
      board = board-passed;
      some = some-kept;
      room = omega (arith, table-small (take n s) board-passed some-kept);
    })

    taken_back : TakenBack s out n
    unfolding salvaging
    taken_back = record {
      done = done;
      promised = rw done (tasks-cut s n within reaches);
      kept = rw done kept-cut;
      records = λ k low high. let e : k - 1 + 1 ≡ k = omega arith in record_cut s n within reaches k (rw e at (fits s n c (k - 1) (omega arith)));
    }

pub cut : Cut
cut = record { taken_back = λ s out n c long. taken_back s n c out long }
