-- 9 to 11 of a whole file, from its records. Assumes nothing.
use borrow.Author.Rules.{rules}
use mathlib.Core.Path.{◌≡◌}
use Prim.Native.Nat.{ℕ, ◌+◌, ◌-◌, ◌≤◌}
use native.Mathlib.Omega.{arith}
use Rattle.rules.specs.declared.Task.{Task}
use Rattle.rules.specs.declared.Table.{Table}
use Rattle.rules.specs.Refusals.{check_tasks}
use Rattle.rules.specs.Tasks.{task_of}
use Rattle.rules.specs.File.{decode}
use Rattle.file.proofs.records_in.Goals as goal

-- task k is that of the record in place k - 1
at : (t : Table) (k : ℕ) {x : Task} → 1 ≤ k → x ≡ task_of t (k - 1 + 1) → x ≡ task_of t k
at t k low e = let same : k - 1 + 1 ≡ k = omega arith in rw same at e

pub of-header-requires : goal.of-header-requires
of-header-requires c = omega (arith, c.requires.long)

pub returns : goal.returns
unfolding check_tasks decode
returns c = rw c.of-header.ensures at c.check_each.ensures (task_of (decode c.args.file.now)) (λ k x low high post. at (decode c.args.file.now) k low (search rules))
