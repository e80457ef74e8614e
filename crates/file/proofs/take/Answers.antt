-- The refusal, then the table. Assumes nothing.
use mathlib.Core.Path.{◌≡◌, sym, ◌∙◌}
use mathlib.Core.Bool.{true}
use native.Mathlib.Omega.{arith}
use Rattle.rules.specs.Chain.{is_accepted}
use Rattle.rules.specs.Refusals.{check_table}
use Rattle.rules.specs.File.{decode}
use Rattle.facts.proofs.Chain.{returned, denied-alike, allowed, was-allowed}
use Rattle.fields.proofs.Steps.{records-end}
use Rattle.file.proofs.Reading.{whole-sized, taken, taken-counts}
use Rattle.file.proofs.take.Goals.{In_ok-figures_refusal}
use Rattle.file.proofs.take.Goals as goal

pub returns-in_err-figures_refusal : goal.returns-in_err-figures_refusal
returns-in_err-figures_refusal c = returned _ c.from_residual.ensures.1 ∙ denied-alike _ _ _ c.in_err-figures_refusal.ensures ∙ sym (taken _)

passed : (c : In_ok-figures_refusal) → is_accepted (check_table (decode c.args.file.now)) ≡ true
passed c = (was-allowed _ _ (sym c.in_ok-figures_refusal.ensures)).0

pub of-header-requires : goal.of-header-requires
of-header-requires c = omega (arith, (whole-sized _ c.requires).long)

pub table-requires : goal.table-requires
table-requires c = rw c.of-header.ensures (record {
  file_bound = taken-counts _ (passed (goal.at.table-requires c).In_ok-figures_refusal);
  n_in_bounds = records-end c.args.file.now (whole-sized _ c.requires);
})

pub returns : goal.returns
unfolding decode
returns c = rw (c.table.ensures, c.of-header.ensures) (sym (allowed _ _ (passed (goal.at.returns c).In_ok-figures_refusal))) ∙ sym (taken _)
