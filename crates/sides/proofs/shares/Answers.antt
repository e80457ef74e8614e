-- `shares` says whether two sets have a partition in common. Assumes nothing.
use borrow.Author.Rules.{rules}
use Rattle.sides.proofs.Common.{common}
use Rattle.sides.proofs.shares.Goals as goal

pub returns : goal.returns
returns c = common c.args.a c.args.b (search rules)
