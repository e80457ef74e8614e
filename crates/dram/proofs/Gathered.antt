-- Both costs of a core, as a loop over the cores gathers them: q cores have been weighed. Assumes nothing.
use mathlib.Core.Path.{◌≡◌, refl}
use mathlib.Core.List.{List, map}
use Prim.Native.Nat.{ℕ, ◌+◌, ◌<◌}
use native.Mathlib.Omega.{arith}
use lib.ListN.{replicate, set}
use Rattle.rules.specs.declared.Table.{Table}
use Rattle.rules.specs.declared.Picos.{Picos}
use Rattle.rules.specs.Units.{ps}
use Rattle.rules.specs.Dram.{RD}
use Rattle.facts.specs.Prices.{weight, dram_prices}
use Rattle.laws.specs.Idioms.{sum_over, up_to, from, filled}
use Rattle.laws.proofs.Sums.{sum-append, up_to-next}
use Rattle.laws.proofs.Places.{place_next}
use Rattle.prices.specs.Costs.{costs_at}
use Rattle.prices.specs.declared.CoreCosts.{CoreCosts}

pub record SoFar (t : Table) (p q sum : ℕ) (weights : List Picos) : Type 0 where
  pub sum_is : sum ≡ sum_over (up_to q) (weight t p)
  pub weights_are : weights ≡ filled 8 (ps 0) (map (λ r. ps (weight t p r)) (up_to q))

module _ (t : Table) (p : ℕ) where
  pub so_far-none : SoFar t p 0 0 (replicate 8 (ps 0))
  unfolding from
  so_far-none = record { sum_is = refl; weights_are = refl }

  pub so_far-next : {q sum each : ℕ} {weights : List Picos} → SoFar t p q sum weights → q < 8 → each ≡ weight t p (q + 1)
      → SoFar t p (q + 1) (sum + each) (set weights q (ps each))
  so_far-next {q} s h e =
      record {
        sum_is = rw (up_to-next, sum-append) (omega (arith, s.sum_is));
        weights_are = rw (s.weights_are, e) (place_next (ps 0) (λ r. ps (weight t p r)) 8 q h);
      }

  pub so_far-all : {q request sum : ℕ} {weights : List Picos} → SoFar t p q sum weights → q ≡ t.cores
      → (sum ≡ sum_over (up_to t.cores) (weight t p) → request ≡ RD t p)
      → ◌≡◌ {A = CoreCosts} (record { request = ps request; weight = weights }) (costs_at t.cores (dram_prices t p))
  unfolding dram_prices
  so_far-all s e delay = rw (delay (rw e at s.sum_is), s.weights_are, e)
