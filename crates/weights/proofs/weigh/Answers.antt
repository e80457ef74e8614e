-- `weigh` gives the rules' weight. Assumes nothing.
use Rattle.std.proofs.Common.{◌≡◌, rules}
use Rattle.weights.proofs.Weighed.{weighed, weighed_apart}
use Rattle.weights.proofs.weigh.Goals as goal

pub returns-then-near-ne0-clause-value : goal.returns-then-near-ne0-clause-value
returns-then-near-ne0-clause-value c = λ t highp highq s.
    rw (c.bit-across.ensures.0, c.count.ensures.0, c.bit.ensures.0) (weighed s c.args.q (search rules) highp (search rules) highq)

pub returns-clause-value : goal.returns-clause-value
returns-clause-value c = λ t highp highq s.
    let none : c.args.near ≡ 0 = search rules in
    rw c.bit-across.ensures.0 (weighed_apart s none c.args.q (search rules) highp (search rules) highq)
