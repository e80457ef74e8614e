-- `request_delay` adds the row's part. Assumes nothing.
use Rattle.std.proofs.Common.{rules}
use Rattle.weights.proofs.Weighed.{RD-none, RD-some}
use Rattle.weights.proofs.request_delay.Goals as goal

pub returns-then-near-eq0 : goal.returns-then-near-eq0
returns-then-near-eq0 c = λ t highp s sum. RD-none s sum c.if-near-eq0.true

pub returns : goal.returns
returns c = λ t highp s sum. rw c.count-others.ensures.0 (RD-some s sum c.if-near-eq0.false (search rules) highp)
