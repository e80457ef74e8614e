-- The table of the kept records, written. Assumes nothing.
use native.Mathlib.Omega.{arith}
use Rattle.rules.specs.Salvage.{salvaged_table}
use Rattle.fields.proofs.Steps.{header-there}
use Rattle.kept.proofs.Kept.{kept_reach}
use Rattle.salvaging.proofs.Links.{reached, board-counts}
use Rattle.salvaging.proofs.write_kept.Goals as goal

pub returns : goal.returns
unfolding salvaged_table
returns c =
    let is = c.requires.n_value in
    rw (c.table-table.ensures, c.mark_salvaged.ensures, c.of-form.ensures, is) at c.write.ensures

pub of-form-requires : goal.of-form-requires
of-form-requires c = omega (arith, header-there c.args.file.now (reached _ c.requires.file_value))

pub mark_salvaged-requires : goal.mark_salvaged-requires
mark_salvaged-requires c = rw c.of-form.ensures (board-counts _ c.requires.file_value_2).2

pub table-table-requires : goal.table-table-requires
table-table-requires c =
    let is = c.requires.n_value in
    let (cores, few, _) = board-counts _ c.requires.file_value_2 in
    record { file_bound = (cores, rw is few); n_in_bounds = rw is (kept_reach _ c.requires.file_value) }
