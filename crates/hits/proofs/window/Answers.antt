-- `hits::window` meets its contract. Assumes nothing.
use mathlib.Core.Path.{sym, ◌∙◌}
use borrow.Author.Tests.{eq-eqb, ne_eqb}
use Rattle.rules.specs.Timing.{unknown}
use Rattle.rules.specs.Delays.{window}
use Rattle.hits.proofs.window.Goals as goal

pub returns-then-cap-eq65535 : goal.returns-then-cap-eq65535
unfolding window
returns-then-cap-eq65535 c =
    simp (eq-eqb _ unknown (sym c.figure-cap.ensures.0 ∙ c.if-cap-eq65535.true))
    (rw (c.quotient-bursts.ensures, c.figure.ensures.0, c.figure-2.ensures.0))

pub returns-else-cap-eq65535 : goal.returns-else-cap-eq65535
unfolding window
returns-else-cap-eq65535 c =
    simp (ne_eqb _ unknown (λ e. c.if-cap-eq65535.false (c.figure-cap.ensures.0 ∙ e)))
    (rw (c.min.ensures, c.quotient-bursts.ensures, c.figure.ensures.0, c.figure-2.ensures.0, c.figure-cap.ensures.0))
