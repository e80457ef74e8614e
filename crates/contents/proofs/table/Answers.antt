-- The table of a file's first records, field by field. Assumes nothing.
use mathlib.Core.Path.{refl}
use mathlib.Core.List.{List}
use Prim.Native.Nat.{ℕ, ◌+◌, ◌≤◌}
use native.Mathlib.Omega.{arith}
use lib.ListN.{length}
use Rattle.rules.specs.File.{record_at, cores_in, form_in}
use Rattle.fields.proofs.Steps.{header-there}
use Rattle.contents.proofs.Steps.{sets-there}
use Rattle.contents.proofs.table.Goals as goal

-- the header is there
long : (s : List ℕ) (n : ℕ) → record_at (form_in s) (cores_in s) (n + 1) ≤ length s → 34 ≤ length s
long s n reaches = header-there s (sets-there s n reaches)

pub of-header-requires : goal.of-header-requires
of-header-requires c = omega (arith, long c.args.file.now c.args.n c.requires.n_in_bounds)

pub row_in-requires : goal.row_in-requires
row_in-requires c = long c.args.file.now c.args.n c.requires.n_in_bounds

pub sets_in-requires : goal.sets_in-requires
sets_in-requires c = record { file_bound = c.requires.file_bound.0; file_in_bounds = sets-there c.args.file.now c.args.n c.requires.n_in_bounds }

pub put_tasks-requires : goal.put_tasks-requires
put_tasks-requires c = record {
  n_bound = omega (arith, c.from.ensures, c.requires.file_bound.1);
  n_in_bounds = rw c.from.ensures c.requires.n_in_bounds;
  none = rw c.no_task.ensures refl;
}

pub returns : goal.returns
returns c = rw (c.of-header.ensures, c.row_in.ensures, c.sets_in.ensures, c.put_tasks.ensures, c.from.ensures)
