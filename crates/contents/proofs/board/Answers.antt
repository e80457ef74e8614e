-- 5 to 8 and 16 of a file, from its bytes. Assumes nothing.
use mathlib.Core.Path.{◌∙◌}
use native.Mathlib.Omega.{arith}
use borrow.Author.Tests.{ltb-true, ltb-false}
use Rattle.rules.specs.Refusals.{check_board}
use Rattle.rules.specs.File.{decode}
use Rattle.facts.proofs.Chain.{returned, was-faulty, was-faultless}
use Rattle.fields.proofs.Steps.{header-there}
use Rattle.contents.proofs.Steps.{counted-out}
use Rattle.contents.proofs.board.Goals as goal

pub of-header-requires : goal.of-header-requires
of-header-requires c = omega (arith, header-there c.args.file.now c.requires)

pub returns-in_err-refuse_if : goal.returns-in_err-refuse_if
returns-in_err-refuse_if c =
    let was = was-faulty 5 0 _ (tt {0}) (omega arith) (rw c.of-header.ensures at c.in_err-refuse_if.ensures) in
    returned _ c.from_residual.ensures.1 ∙ rw was.1 (counted-out _ (ltb-true 8 _ was.0))

pub sets_in-requires : goal.sets_in-requires
sets_in-requires c = record {
  file_bound = ltb-false 8 _ (was-faultless 5 0 _ (tt {0}) (omega arith) (rw c.of-header.ensures at c.in_ok-refuse_if.ensures));
  file_in_bounds = c.requires;
}

pub row_in-requires : goal.row_in-requires
row_in-requires c = omega (arith, header-there c.args.file.now c.requires)

pub returns : goal.returns
unfolding check_board decode
returns c = c.board_refusal.ensures ∙ rw (c.of-header.ensures, c.row_in.ensures, c.sets_in.ensures)
