-- `lines` meets its contract: what the check gave decides which text is given. Assumes nothing.
use mathlib.Core.Path.{sym}
use native.Mathlib.Omega.{arith}
use Rattle.facts.proofs.Chain.{was-allowed}
use Rattle.listing.proofs.TableLines.{text-refused, text-whole}
use Rattle.listing.proofs.lines.Goals as goal

pub accepted_lines-requires : goal.accepted_lines-requires
accepted_lines-requires c = (was-allowed _ _ (sym c.in-Ok.ensures)).0

pub returns-in-Ok : goal.returns-in-Ok
returns-in-Ok c = rw (text-whole c.args.t c.args.answers _ c.in-Ok.ensures) (record { given = c.accepted_lines.ensures.given; answers_len_bound = c.accepted_lines.ensures.answers_len_bound })

pub returns-in-Err : goal.returns-in-Err
returns-in-Err c = rw (text-refused c.args.t c.args.answers _ c.in-Err.ensures) (record { given = c.refused.ensures.given; answers_len_bound = omega (arith, c.refused.ensures.number_len_bound) })
