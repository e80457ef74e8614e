-- What the checks of a board leave of it; and an accepted table is sound: one law, so that nobody opens the checks again. Assumes nothing.
use mathlib.Core.Path.{◌≡◌}
use mathlib.Core.Bool.{true, false, not, ◌&&◌}
use Prim.Native.Nat.{ℕ, ◌≤◌, ◌<◌, ◌^◌}
use native.Mathlib.Omega.{arith}
use lib.Dec.{ltb, eqb}
use borrow.Author.Tests.{ltb-true, ltb-false, eqb-false, not-false}
use Rattle.rules.specs.declared.Table.{Table}
use Rattle.rules.specs.declared.Refusal.{Refusal}
use Rattle.rules.specs.Tasks.{C, T, D, H, task_of}
use Rattle.rules.specs.Cores.{set_of}
use Rattle.rules.specs.Kinds.{fourth_allowed}
use Rattle.rules.specs.Chain.{is_accepted, ◌or_else◌, given, first}
use Rattle.rules.specs.Refusals.{counts_fault, check_row, set_fault, core_fault, time_fault, request_fault, board_refusal, tasks_refusal, check_board, check_tasks, check_table}
use Rattle.facts.specs.Sound.{SoundTask, Sound}
use Rattle.facts.proofs.First.{none_first}
use Rattle.facts.proofs.Rows.{sound-row, sound-slot, is_dram, is_bus_lem, row-high}
use Rattle.facts.proofs.Chain.{both-accepted, no_fault}
use Rattle.laws.specs.Idioms.{within, Within}
use Rattle.laws.proofs.Tests.{and_both, or_neither, inside}

-- ---- the board

module _ (t : Table) (board-passed : is_accepted (check_board t) ≡ true) where
  counts_link : Refusal
  counts_link = given 5 0 (counts_fault t.cores t.partitions t.tasks t.fourth)

  row_link : Refusal
  row_link = check_row t.fourth t.timing

  sets_link : Refusal
  sets_link = first 8 (λ p. set_fault t.partitions (set_of t p)) t.cores

  board-links : (is_accepted (counts_link or_else row_link) ≡ true) × (is_accepted sets_link ≡ true)
  unfolding check_board board_refusal counts_link row_link sets_link
  board-links = both-accepted (counts_link or_else row_link) sets_link board-passed

  first-links : (is_accepted counts_link ≡ true) × (is_accepted row_link ≡ true)
  first-links = both-accepted counts_link row_link board-links.0

  counts-hold : within 1 8 t.cores && within 1 16 t.partitions && within 1 32 t.tasks && ltb t.fourth 4 ≡ true
  unfolding counts_link counts_fault fourth_allowed
  counts-hold = not-false _ (no_fault 4 0 (counts_fault t.cores t.partitions t.tasks t.fourth) first-links.0)

  pub counts : (Within 1 8 t.cores × Within 1 16 t.partitions) × (Within 1 32 t.tasks × (t.fourth < 4))
  counts =
      let fourth = and_both _ _ counts-hold in
      let tasks = and_both _ _ fourth.0 in
      let rest = and_both _ _ tasks.0 in
      ((inside 1 8 _ rest.0, inside 1 16 _ rest.1), (inside 1 32 _ tasks.1, ltb-true t.fourth 4 fourth.1))

  module _ (p : ℕ) (low : 1 ≤ p) (high : p ≤ t.cores) where
    set-clear : (eqb (set_of t p) 0 ≡ false) × (not (ltb (set_of t p) (2 ^ t.partitions)) ≡ false)
    unfolding set_fault sets_link
    set-clear = or_neither _ _ (none_first 7 (λ p. set_fault t.partitions (set_of t p)) t.cores board-links.1 p low high)

    set-facts : (1 ≤ set_of t p) × (set_of t p < 2 ^ t.partitions)
    set-facts = (omega (arith, eqb-false (set_of t p) 0 set-clear.0), ltb-true _ _ (not-false _ set-clear.1))

  pub row-passed : is_accepted (check_row t.fourth t.timing) ≡ true
  unfolding row_link
  row-passed = first-links.1

  pub sets-passed : is_accepted (first 8 (λ p. set_fault t.partitions (set_of t p)) t.cores) ≡ true
  unfolding sets_link
  sets-passed = board-links.1

-- ---- the tasks, and all of it

module _ (t : Table) (passed : is_accepted (check_table t) ≡ true) where
  board-passed : is_accepted (check_board t) ≡ true
  unfolding check_table
  board-passed = (both-accepted (check_board t) (check_tasks t) passed).0

  tasks-passed : is_accepted (check_tasks t) ≡ true
  unfolding check_table
  tasks-passed = (both-accepted (check_board t) (check_tasks t) passed).1

  core_link : Refusal
  core_link = first 9 (λ k. core_fault t.cores (task_of t k)) t.tasks

  time_link : Refusal
  time_link = first 10 (λ k. time_fault (task_of t k)) t.tasks

  request_link : Refusal
  request_link = first 11 (λ k. request_fault (task_of t k)) t.tasks

  task-links : (is_accepted (core_link or_else time_link) ≡ true) × (is_accepted request_link ≡ true)
  unfolding check_tasks tasks_refusal core_link time_link request_link
  task-links = both-accepted (core_link or_else time_link) request_link tasks-passed

  module _ (k : ℕ) (low : 1 ≤ k) (high : k ≤ t.tasks) where
    core-holds : within 1 t.cores (task_of t k).core ≡ true
    unfolding core_link core_fault
    core-holds = not-false _ (none_first 8 (λ k. core_fault t.cores (task_of t k)) t.tasks (both-accepted core_link time_link task-links.0).0 k low high)

    times_hold : within (10 ^ 8) (10 ^ 12) (T (task_of t k)) && within 1 (T (task_of t k)) (D (task_of t k)) && within 1 (D (task_of t k)) (C (task_of t k)) ≡ true
    unfolding time_link time_fault
    times_hold = not-false _ (none_first 9 (λ k. time_fault (task_of t k)) t.tasks (both-accepted core_link time_link task-links.0).1 k low high)

    requests_fit : ltb 1000000 (H (task_of t k)) ≡ false
    unfolding request_link request_fault
    requests_fit = none_first 10 (λ k. request_fault (task_of t k)) t.tasks task-links.1 k low high

    task-facts : SoundTask t.cores (task_of t k)
    task-facts =
        let exec = and_both _ _ times_hold in
        let period = and_both _ _ exec.0 in
        record {
          core_in = inside _ _ _ core-holds;
          T_in = inside _ _ _ period.0;
          D_in = inside _ _ _ period.1;
          C_in = inside _ _ _ exec.1;
          H-high = ltb-false _ _ requests_fit;
        }

  pub sound : Sound t
  sound =
      let (places, rest) = counts t board-passed in
      let row = row-passed t board-passed in
      record {
        cores-in = places.0;
        partitions-in = places.1;
        tasks-in = rest.0;
        fourth-low = rest.1;
        figure-high = row-high t.fourth t.timing row;
        row = λ dram. sound-row t.timing (is_dram t.fourth t.timing row dram);
        slot-in = λ bus. sound-slot t.timing (is_bus_lem t.fourth t.timing row bus);
        set-some = λ p low high. (set-facts t board-passed p low high).0;
        set-high = λ p low high. (set-facts t board-passed p low high).1;
        task-sound = task-facts;
      }
