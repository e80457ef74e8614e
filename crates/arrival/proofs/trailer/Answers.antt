-- Refusals 3 and 4: the trailer's three numbers against the length and the two sums. Assumes nothing.
use mathlib.Core.Path.{◌∙◌, refl}
use borrow.Author.Tests.{eq-eqb, ne_eqb}
use Rattle.rules.specs.File.{check_trailer}
use Rattle.facts.proofs.Chain.{stops_at, goes_on_to}
use Rattle.arrival.proofs.trailer.Goals.{then-sum_differs, else-sum_differs}
use Rattle.arrival.proofs.trailer.Goals as goal

pub returns-in_err-refuse_if : goal.returns-in_err-refuse_if
unfolding check_trailer
returns-in_err-refuse_if c = stops_at _ _ _ _ c.from_residual.ensures.1 (rw c.le32.ensures at c.in_err-refuse_if.ensures)

pub returns : goal.returns
unfolding check_trailer
returns c = goes_on_to _ _ _ _ (rw c.le32.ensures at c.in_ok-refuse_if.ensures)
    (elim c.if-sum_differs.branch [
      | then-sum_differs w ↦ c.refuse_if-2.ensures ∙ rw (w.refuse_if-is, c.le32-2.ensures, c.sums-total.ensures, ne_eqb _ _ (rw (c.le32-2.ensures, c.sums-total.ensures) at w.if-sum_differs.true)) refl
      | else-sum_differs w ↦ c.refuse_if-2.ensures ∙ rw (w.refuse_if-is, c.le32-3.ensures, c.sums-total.ensures, eq-eqb _ _ (rw (c.le32-2.ensures, c.sums-total.ensures) at w.if-sum_differs.false)) refl
    ])
