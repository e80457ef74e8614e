-- The starts as numbers. Assumes nothing.
use borrow.Author.Rules.{rules}
use Rattle.std.proofs.Common.{of_calls}
use Rattle.rules.specs.Units.{ps}
use Rattle.laws.proofs.Runs.{unmapped}
use Rattle.starts.proofs.Mapped.{mapped}
use Rattle.starts.proofs.numbers.Goals as goal

pub returns : goal.returns
returns c = mapped _ _ _ c.args.starts c.map.result _ c.map.ensures.items (search (rules, unmapped)) (ps 0) (λ p q x y call. search (rules, of_calls))
