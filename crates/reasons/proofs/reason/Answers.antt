-- `reason` meets its contract: the piece in a number's place is its text. Assumes nothing.
use mathlib.Core.Path.{◌∙◌}
use Rattle.reasons.specs.Reasons.{numbered_texts}
use Rattle.reasons.proofs.Texts.{own-text, piece-text, reason-length}
use Rattle.reasons.proofs.reason.Goals as goal

pub returns-then-number-eq255 : goal.returns-then-number-eq255
returns-then-number-eq255 c = record { given = rw (own-text _ c.if-number-eq255.true) at c.give.ensures; within = reason-length _ }

pub returns : goal.returns
unfolding numbered_texts
returns c = record { given = rw (c.piece.ensures ∙ piece-text _ c.if-number-eq255.false) at c.give-2.ensures; within = reason-length _ }
