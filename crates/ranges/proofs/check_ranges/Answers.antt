-- Each figure by its entry in the table of limits. Assumes nothing.
use borrow.Author.Rules.{rules}
use Rattle.rules.specs.Refusals.{figure_fault}
use Rattle.ranges.proofs.Table.{fault_at}
use Rattle.ranges.proofs.check_ranges.Goals as goal

pub returns : goal.returns
returns c =
    c.refuse_first.ensures (figure_fault c.args.row) (λ k b low high post. fault_at c.args.row k c.all_limits-table.ensures (search rules))
