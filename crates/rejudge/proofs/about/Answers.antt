-- `about` meets its contract. Assumes nothing.
use borrow.Author.Rules.{rules}
use Rattle.rejudge.proofs.Whose.{mapped}
use Rattle.rejudge.proofs.about.Goals as goal

pub returns : goal.returns
returns g c = mapped c.args.faulty c.args.answered _ (λ x d post. search rules) c.map_err.ensures.cases
