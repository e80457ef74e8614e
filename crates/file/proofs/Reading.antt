-- A file that came whole, the figures taken out of it, and what an accepted file is known to be. Assumes nothing.
use mathlib.Core.Path.{◌≡◌}
use mathlib.Core.Bool.{true}
use mathlib.Core.List.{List}
use Prim.Native.Nat.{ℕ, ◌≤◌}
use Rattle.rules.specs.Chain.{is_accepted, granted}
use Rattle.rules.specs.Refusals.{check_table}
use Rattle.rules.specs.File.{cores_in, tasks_in, check_whole, decode}
use Rattle.rules.specs.Operations.{taking, check_file}
use Rattle.facts.specs.Sound.{Sound}
use Rattle.facts.proofs.Chain.{granted-where}
use Rattle.facts.proofs.Accepted.{sound}
use Rattle.facts.proofs.Reading.{file_whole, decoded_accepted}
use Rattle.fields.specs.Places.{Sized}
use Rattle.facts.proofs.Came.{whole}

module _ (s : List ℕ) where
  -- ---- a file that came whole

  module _ (came : is_accepted (check_whole s) ≡ true) where
    pub whole-sized : Sized s
    whole-sized = let w = whole s came in record { long = w.long; sized = w.sized }
    -- ---- the second part, as code answers it

  pub taken : granted (taking s).refusal (taking s).table ≡ granted (check_table (decode s)) (decode s)
  unfolding taking
  taken = granted-where _ _ _

  module _ (e : is_accepted (check_table (decode s)) ≡ true) where
    pub taken-counts : (cores_in s ≤ 8) × (tasks_in s ≤ 32)
    unfolding decode
    taken-counts = let counts = sound (decode s) e in (counts.cores-in.high, counts.tasks-in.high)

  -- ---- a file that was accepted

  module _ (e : is_accepted (check_file s) ≡ true) where
    pub file_sized : Sized s
    file_sized = whole-sized (file_whole s e)

    pub file_counts : (cores_in s ≤ 8) × (tasks_in s ≤ 32)
    file_counts = taken-counts (decoded_accepted s e)

    pub file_sound : Sound (decode s)
    file_sound = sound (decode s) (decoded_accepted s e)
