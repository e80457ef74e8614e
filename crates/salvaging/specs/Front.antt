-- What salvaging meets before the records are looked at, what an answer tells, and what salvaging promises. Assumes nothing.
use Rattle.std.specs.Prelude.{List, ℕ, ◌≤◌, ◌≡◌, Result, Ok, Err}
use Rattle.rules.specs.declared.Refusal.{Refusal}
use Rattle.rules.specs.declared.Salvage.{Salvage}
use Rattle.rules.specs.Results.{Salvaged, counts_of}
use Rattle.rules.specs.Chain.{accepted, ◌or_else◌, is_accepted, given, granted}
use Rattle.rules.specs.Refusals.{check_board}
use Rattle.rules.specs.File.{decode}
use Rattle.rules.specs.Operations.{check_file}
use Rattle.rules.specs.Salvage.{ends_early, salvaging, salvaged_out}

-- the first three links of RULES 9.5
unfoldable pub check_front : List ℕ → Refusal
check_front s = given 19 0 (is_accepted (check_file s)) or_else given 17 0 (ends_early s) or_else check_board (decode s)

-- all that salvaging tells, by what code answers: where something is refused the counts are 0 (RULES 9.2)
abbrev pub salvaged_by : Result Salvage Refusal → Salvaged
salvaged_by (Ok x) = record { refusal = accepted; length = x.length; promised = x.promised; kept = x.kept; stopped = x.stopped }
salvaged_by (Err r) = record { refusal = r; length = 0; promised = 0; kept = 0; stopped = 0 }

-- the answer of salvaging s into a buffer, and the buffer's bytes afterwards
pub record Salvages (s before : List ℕ) (answer : Result Salvage Refusal) (after : List ℕ) : Type 0 where
  pub answered : answer ≡ granted (salvaging s before).refusal (counts_of (salvaging s before))
  -- no file is longer (RULES 7.5)
  pub small : (salvaging s before).length ≤ 990
  pub stored : after ≡ salvaged_out s before
