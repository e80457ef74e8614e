-- Too many requests. Assumes nothing.
use borrow.Author.Rules.{rules}
use Rattle.rules.specs.Refusals.{request_fault}
use Rattle.task_walk.proofs.request_fault.Goals as goal

pub returns : goal.returns
unfolding request_fault
returns c = search rules
