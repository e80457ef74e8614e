-- The costs of each core, core by core. Assumes nothing.
use Rattle.std.proofs.Common.{◌≡◌, ℕ, map}
use Rattle.laws.specs.Idioms.{Within, up_to, filled}
use Rattle.prices.specs.Costs.{no_costs}
use Rattle.prices.specs.declared.CoreCosts.{CoreCosts}
use Rattle.prices.proofs.each_core.Given as goal

abbrev pub invariant-loop-p : goal.invariant-loop-p
invariant-loop-p g l =
    (of : ℕ → CoreCosts) → ((q : ℕ) (r : CoreCosts) → Within 1 l.cores q → goal.F-post g l.costs q r → r ≡ of q)
    → l.all ≡ filled 8 no_costs (map of (up_to l.p))
