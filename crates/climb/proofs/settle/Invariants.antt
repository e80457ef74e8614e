-- The loop makes the rounds. Assumes nothing.
use Rattle.std.proofs.Common.{◌-◌, max}
use Rattle.terms.specs.Terms.{terms_in}
use Rattle.climb.specs.Run.{lowest_of}
use Rattle.climb.proofs.Rises.{Going}
use Rattle.climb.proofs.settle.Given as goal

abbrev pub invariant-loop-t : goal.invariant-loop-t
invariant-loop-t l = Going (terms_in l.own l.tasks) (max (lowest_of l.own) l.given) l.t l.n

abbrev pub decreases-loop-t : goal.decreases-loop-t
decreases-loop-t l = l.own.latest - l.t
