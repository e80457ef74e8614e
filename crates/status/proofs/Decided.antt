-- The status of a file, by what reading it to judge it gave. Assumes nothing.
use mathlib.Core.Path.{◌≡◌}
use mathlib.Core.Bool.{true, false, cond}
use mathlib.Core.List.{List}
use Prim.Native.Nat.{ℕ}
use Rattle.rules.specs.Chain.{is_accepted}
use Rattle.rules.specs.File.{tasks_in, decode}
use Rattle.rules.specs.Operations.{check_to_judge, read_to_judge, judge_all, fresh_starts}
use Rattle.facts.proofs.ToJudge.{refusal_to_judge, table_to_judge}
use Rattle.status.specs.Status.{all_hold, status_of, file_status}

module _ (s : List ℕ) where
  pub refused_status : is_accepted (read_to_judge s).refusal ≡ false → file_status s ≡ 2
  unfolding file_status status_of
  refused_status e = rw e

  pub accepted_status : is_accepted (read_to_judge s).refusal ≡ true
      → file_status s ≡ cond (all_hold (read_to_judge s).table.tasks (judge_all (read_to_judge s).table fresh_starts).answers) 0 1
  unfolding file_status status_of
  accepted_status e = rw e

  -- as code finds it in the bytes
  pub status_refused : is_accepted (check_to_judge s) ≡ false → file_status s ≡ 2
  status_refused e = refused_status (rw (refusal_to_judge s) e)

  pub status_accepted : is_accepted (check_to_judge s) ≡ true → file_status s ≡ cond (all_hold (tasks_in s) (judge_all (decode s) fresh_starts).answers) 0 1
  unfolding decode
  status_accepted e = rw (table_to_judge s e) at (accepted_status (rw (refusal_to_judge s) e))
