-- Every figure of an accepted table fits its field of the file. Assumes nothing.
use mathlib.Core.Path.{◌≡◌}
use mathlib.Core.Bool.{true}
use Prim.Native.Nat.{ℕ, suc, ◌-◌, ◌^◌, ◌≤◌, ◌<◌}
use native.Mathlib.Nat.{pow-le-pow_right}
use native.Mathlib.Omega.{arith}
use lib.Dec.{lit<}
use lib.ListN.{get_or}
use Rattle.rules.specs.declared.Table.{Table}
use Rattle.rules.specs.Tasks.{no_task}
use Rattle.rules.specs.Chain.{is_accepted}
use Rattle.rules.specs.Refusals.{check_table}
use Rattle.facts.proofs.Accepted.{sound}
use Rattle.file_claims.proofs.Codes.{Fits}

-- places of a list are counted from 0, figures, cores and tasks from 1
from_one : (k : ℕ) → suc k - 1 ≡ k
from_one k = omega arith

module _ (t : Table) (passed : is_accepted (check_table t) ≡ true) where
  pub figure-fits : (k : ℕ) → k < 15 → get_or t.timing k 0 < 256 ^ 2
  figure-fits k less = omega (arith, rw (from_one k) at ((sound t passed).figure-high (suc k) (omega arith) (omega arith)))

  pub set-fits : (k : ℕ) → k < t.cores → get_or t.sets k 0 < 256 ^ 2
  set-fits k less =
      let widest : 2 ^ t.partitions ≤ 2 ^ 16 = pow-le-pow_right (lit< tt) (sound t passed).partitions-in.high in
      omega (arith, rw (from_one k) at ((sound t passed).set-high (suc k) (omega arith) (omega arith)))

  pub task-fits : (k : ℕ) → k < t.tasks → Fits (get_or t.task k no_task)
  task-fits k less =
      let cores = (sound t passed).cores-in in
      let i = rw (from_one k) at ((sound t passed).task-sound (suc k) (omega arith) (omega arith)) in
      record { core-fits = omega arith; C-fits = omega arith; T-fits = omega arith; D-fits = omega arith; H-fits = omega arith }
