-- The places passed have no change. Assumes nothing.
use Rattle.std.specs.Prelude.{ℕ, Option, ◌≤◌, ◌≡◌}
use Rattle.changes.proofs.First.{Left}
use Rattle.changes.proofs.first_of.Given as goal

abbrev pub invariant-loop-i : goal.invariant-loop-i
invariant-loop-i g l =
    (d : ℕ → Option g.row.T.Denot) → ((k : ℕ) (c : Option g.row.T.Denot) → 1 ≤ k → k ≤ l.n → goal.F-post g l.change k c → c ≡ d k) → Left d l.n l.i
