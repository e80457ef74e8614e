-- Of the places passed none is at fault. Assumes nothing.
use Rattle.std.specs.Prelude.{ℕ, Bool, ◌≤◌, ◌≡◌}
use Rattle.facts.proofs.First.{Left}
use Rattle.chain.proofs.refuse_first.Given as goal

abbrev pub invariant-loop-i : goal.invariant-loop-i
invariant-loop-i g l = (test : ℕ → Bool) → ((k : ℕ) (b : Bool) → 1 ≤ k → k ≤ l.n → goal.F-post g l.fault k b → b ≡ test k) → Left l.number test l.n l.i
