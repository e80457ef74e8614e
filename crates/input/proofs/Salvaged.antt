-- An input and its first bytes, as many as no header's counts exceed, are salvaged as the same: every record that the header promises stands in both. Assumes nothing.
use mathlib.Core.Path.{◌≡◌, refl, ap}
use mathlib.Core.Bool.{Bool, false}
use mathlib.Core.List.{List}
use Prim.Native.Nat.{ℕ, zero, suc, ◌+◌, ◌≤◌, ◌<◌}
use native.Mathlib.Omega.{arith}
use lib.ListN.{length, take}
use borrow.Author.Tests.{le-ltb, le-leb}
use Rattle.rules.specs.Tasks.{no_task}
use Rattle.rules.specs.Kinds.{marked}
use Rattle.rules.specs.Chain.{is_accepted}
use Rattle.rules.specs.File.{sets_at, records_at, record_size, record_at, record_task, record_in, cores_in, tasks_in, form_in, decode}
use Rattle.rules.specs.Operations.{check_file}
use Rattle.rules.specs.Salvage.{ends_early, reaches, is_sound, leading, kept, stopped, salvaged_table, check_salvage, salvaging, salvaged_out}
use Rattle.laws.specs.Idioms.{filled}
use Rattle.kept.proofs.Parts.{row-agree}
use Rattle.kept.proofs.Kept.{kept-most}
use Rattle.kept.proofs.CutParts.{cut-length, cores-cut, partitions-cut, tasks-cut, form-cut, record_cut, figures-cut, sets-cut, board-cut}

-- two tests that agree let as many pass
leading-same : {f g : ℕ → Bool} (k m : ℕ) → ((i : ℕ) → k ≤ i → i < k + m → f i ≡ g i) → leading f k m ≡ leading g k m
unfolding leading
leading-same k zero same = refl
leading-same k (suc m) same =
    rw (same k (omega arith) (omega arith), leading-same (k + 1) m (λ i low high. same i (omega arith) (omega arith)))

module _ (s : List ℕ) (n : ℕ) (within : n ≤ length s) (enough : 7952 ≤ n) (cores : cores_in s < 256) (tasks : tasks_in s < 256) where
  -- the sets and every record that is promised stand in the first bytes
  sets-there : records_at (form_in s) (cores_in s) ≤ n
  unfolding records_at sets_at
  sets-there = omega arith

  record_there : (k : ℕ) → k ≤ tasks_in s → record_at (form_in s) (cores_in s) k + record_size (form_in s) ≤ n
  unfolding record_at records_at sets_at record_size
  record_there k high = omega arith

  same_record : (k : ℕ) → k ≤ tasks_in s → record_in (take n s) k ≡ record_in s k
  same_record k high = record_cut s n within sets-there k (record_there k high)

  same-sound : (k : ℕ) → k ≤ tasks_in s → is_sound (take n s) k ≡ is_sound s k
  unfolding is_sound reaches
  same-sound k high =
      let h = record_there k high in
      rw (
        form-cut s n within sets-there,
        cores-cut s n within sets-there,
        cut-length s n within sets-there,
        same_record k high,
        le-leb (record_at (form_in s) (cores_in s) k + record_size (form_in s)) n h,
        le-leb (record_at (form_in s) (cores_in s) k + record_size (form_in s)) (length s) (omega arith),
      )

  same_kept : kept (take n s) ≡ kept s
  unfolding kept
  same_kept = rw (tasks-cut s n within sets-there) (leading-same 1 (tasks_in s) (λ k low high. same-sound k (omega arith)))

  same-stopped : stopped (take n s) ≡ stopped s
  unfolding stopped
  same-stopped = rw (same_kept, tasks-cut s n within sets-there)

  same-tasks : (salvaged_table (take n s)).task ≡ (salvaged_table s).task
  unfolding salvaged_table
  same-tasks =
      rw same_kept
      (ap (filled 32 no_task) (row-agree 1 (kept s) (λ k less. ap record_task (same_record k (omega (arith, kept-most s))))))

  same-table : salvaged_table (take n s) ≡ salvaged_table s
  unfolding salvaged_table decode
  same-table = λ j. record {
    cores = cores-cut s n within sets-there j;
    partitions = partitions-cut s n within sets-there j;
    tasks = same_kept j;
    fourth = marked (form-cut s n within sets-there j);
    timing = figures-cut s n within sets-there j;
    sets = sets-cut s n within sets-there j;
    task = same-tasks j;
  }

  module _ (first : is_accepted (check_file (take n s)) ≡ false) (whole : is_accepted (check_file s) ≡ false) (out : List ℕ) where
    late : ends_early s ≡ false
    unfolding ends_early
    late = le-ltb (length s) (records_at (form_in s) (cores_in s)) (omega (arith, sets-there))

    late-first : ends_early (take n s) ≡ false
    unfolding ends_early
    late-first = rw (form-cut s n within sets-there, cores-cut s n within sets-there, cut-length s n within sets-there) (le-ltb n (records_at (form_in s) (cores_in s)) sets-there)

    same_check : check_salvage (take n s) out ≡ check_salvage s out
    unfolding check_salvage
    same_check = rw (first, whole, late, late-first, board-cut s n within sets-there, same_kept, same-table)

    pub same-salvage : (salvaging (take n s) out ≡ salvaging s out) × (salvaged_out (take n s) out ≡ salvaged_out s out)
    unfolding salvaging salvaged_out
    same-salvage = (rw (same_check, same-table, tasks-cut s n within sets-there, same_kept, same-stopped), rw (same_check, same-table))
