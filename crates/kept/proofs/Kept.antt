-- The kept records of a file: each is whole and has no fault, the next one is not so, and the table of them is accepted. Assumes nothing.
use mathlib.Core.Path.{◌≡◌, refl}
use mathlib.Core.Bool.{Bool, true, false, not}
use mathlib.Core.List.{List}
use Prim.Native.Nat.{ℕ, zero, suc, ◌+◌, ◌-◌, ◌≤◌, ◌<◌}
use native.Mathlib.Omega.{arith}
use lib.ListN.{length}
use borrow.Author.Tests.{leb-true, ltb-false, le-leb, lt-ltb, not-true}
use Rattle.laws.proofs.Tests.{and_both, or_neither}
use Rattle.laws.proofs.Places.{place_of}
use Rattle.rules.specs.declared.Task.{Task}
use Rattle.rules.specs.Tasks.{no_task, task_of}
use Rattle.rules.specs.Kinds.{marked, fourth_allowed}
use Rattle.rules.specs.Chain.{accepted, is_accepted, first}
use Rattle.rules.specs.Refusals.{counts_fault, check_row, core_fault, time_fault, request_fault, board_refusal, tasks_refusal, check_board, check_tasks, check_table}
use Rattle.rules.specs.File.{records_at, record_size, record_at, record_task, record_in, cores_in, partitions_in, tasks_in, form_in, decode}
use Rattle.rules.specs.Salvage.{ends_early, reaches, task_fault, is_sound, kept, salvaged_table}
use Rattle.places.proofs.Places.{record-place}
use Rattle.facts.proofs.Accepted.{counts, row-passed, sets-passed}
use Rattle.facts.proofs.First.{first-none}
use Rattle.kept.proofs.Leading.{leading-most, leading_pass, leading_stop}
use Rattle.kept.proofs.Marked.{marked-low, marked-bus}

module _ (s : List ℕ) where
  pub kept-most : kept s ≤ tasks_in s
  unfolding kept
  kept-most = leading-most (is_sound s) 1 (tasks_in s)

  kept-sound : (k : ℕ) → 1 ≤ k → k ≤ kept s → is_sound s k ≡ true
  unfolding kept
  kept-sound k low high =
      let e : 1 + (k - 1) ≡ k = omega arith in
      rw e at (leading_pass (is_sound s) 1 (tasks_in s) (k - 1) (omega arith))

  pub kept_stop : kept s < tasks_in s → is_sound s (kept s + 1) ≡ false
  unfolding kept
  kept_stop h = let e : 1 + kept s ≡ kept s + 1 = omega arith in rw e at (leading_stop (is_sound s) 1 (tasks_in s) h)

  -- ---- a kept record

  abbrev task : ℕ → Task
  task k = record_task (record_in s k)

  module _ (k : ℕ) (low : 1 ≤ k) (high : k ≤ kept s) where
    parts : (reaches s k ≡ true) × (not (task_fault (cores_in s) (task k)) ≡ true)
    unfolding is_sound
    parts = and_both _ _ (kept-sound k low high)

    pub kept_whole : record_at (form_in s) (cores_in s) k + record_size (form_in s) ≤ length s
    unfolding reaches
    kept_whole = leb-true _ _ parts.0

    pub kept_faultless : task_fault (cores_in s) (task k) ≡ false
    kept_faultless = not-true _ parts.1

    faults : (core_fault (cores_in s) (task k) ≡ false) × (time_fault (task k) ≡ false) × (request_fault (task k) ≡ false)
    unfolding task_fault
    faults =
        let (early, requests) = or_neither _ _ kept_faultless in
        let (core, time) = or_neither _ _ early in
        (core, time, requests)

    -- it stands in the table as it stands in the file
    kept-task : task_of (salvaged_table s) k ≡ task k
    unfolding salvaged_table
    kept-task = place_of no_task task 32 (kept s) k low high

  -- what no kept task has gives no refusal
  clear : (n : ℕ) (fault : Task → Bool) → ((k : ℕ) → 1 ≤ k → k ≤ kept s → fault (task k) ≡ false)
      → first n (λ k. fault (task_of (salvaged_table s) k)) (kept s) ≡ accepted
  clear n fault none = first-none n _ (kept s) (λ k low high. rw (kept-task k low high) (none k low high))

  -- where the kept records end
  pub kept_reach : ends_early s ≡ false → record_at (form_in s) (cores_in s) (kept s + 1) ≤ length s
  unfolding ends_early
  kept_reach enough = go (kept s) refl
    where
      go : (n : ℕ) → kept s ≡ n → record_at (form_in s) (cores_in s) (n + 1) ≤ length s
      go zero e = omega (arith, ltb-false (length s) (records_at (form_in s) (cores_in s)) enough, record-place (form_in s) (cores_in s) 0)
      go (suc n) e =
          let whole = kept_whole (n + 1) (omega arith) (omega arith) in
          omega (arith, whole, record-place (form_in s) (cores_in s) n, record-place (form_in s) (cores_in s) (suc n))

  -- ---- the table

  module _ (board : is_accepted (check_board (decode s)) ≡ true) (some : 1 ≤ kept s) where
    counts_pass : counts_fault (cores_in s) (partitions_in s) (kept s) (marked (form_in s)) ≡ false
    unfolding counts_fault fourth_allowed decode
    counts_pass =
        let ((cores, partitions), (tasks, fourth)) = counts (decode s) board in
        rw (
          le-leb 1 (cores_in s) cores.low,
          le-leb (cores_in s) 8 cores.high,
          le-leb 1 (partitions_in s) partitions.low,
          le-leb (partitions_in s) 16 partitions.high,
          le-leb 1 (kept s) some,
          le-leb (kept s) 32 (omega (arith, kept-most, tasks.high)),
          lt-ltb (marked (form_in s)) 4 (marked-low (form_in s) fourth),
        )

    board-accepted : is_accepted (check_board (salvaged_table s)) ≡ true
    unfolding check_board board_refusal salvaged_table decode check_row
    board-accepted = simp (counts_pass, marked-bus (form_in s), row-passed (decode s) board, sets-passed (decode s) board)

    tasks-accepted : is_accepted (check_tasks (salvaged_table s)) ≡ true
    unfolding check_tasks tasks_refusal salvaged_table
    tasks-accepted =
        rw (
          clear 9 (core_fault (cores_in s)) (λ k low high. (faults k low high).0),
          clear 10 time_fault (λ k low high. (faults k low high).1),
          clear 11 request_fault (λ k low high. (faults k low high).2),
        )

    pub salvaged-accepted : is_accepted (check_table (salvaged_table s)) ≡ true
    unfolding check_table
    salvaged-accepted = simp (board-accepted, tasks-accepted)
