-- Requests of cores at their weights. Assumes nothing.
use mathlib.Core.Path.{◌≡◌, refl, ap, ◌∙◌}
use mathlib.Core.List.{List}
use Prim.Native.Nat.{ℕ, ◌+◌, ◌-◌, ◌*◌, ◌≤◌, ◌<◌, ◌^◌, zero-le}
use native.Mathlib.Nat.{mul-le-mul, mul-le-mul_right}
use native.Mathlib.Omega.{arith}
use lib.ListN.{get_or}
use Rattle.rules.specs.declared.Picos.{Picos}
use Rattle.rules.specs.Units.{ps}
use Rattle.counts.specs.Counts.{sum_below, sum_from, twice_of, Bounded}
use Rattle.counts.proofs.Sums.{below_next, below_mono, below-same, below-plus, below-high, below_fewer}
use Rattle.floors.specs.Floors.{weighed_at, weighed, twice_on, Doubled, FitsAt, others_with}

-- two jobs of each task of a core are at most so many requests
pub twice_high : {a e : ℕ} {asks : List ℕ} → Bounded (10 ^ 6) a e asks → sum_from (twice_of asks) a e ≤ 32 * (2 * 10 ^ 6)
unfolding sum_from twice_of
twice_high {a} {e} {asks} low =
    let each = below-high (λ j. twice_of asks (a + j)) (e - a) (2 * 10 ^ 6) (λ j h. omega (arith, low.cost (a + j) (omega arith) (omega arith))) in
    omega (arith, each, low.few)

module _ (cores : ℕ) (weight : List Picos) where
  pub weighed-same : (f g : ℕ → ℕ) → ((q : ℕ) → q < cores → f q ≡ g q) → weighed cores weight f ≡ weighed cores weight g
  unfolding weighed
  weighed-same f g same = below-same _ _ cores (λ q h. rw (same q h))

  pub weighed_mono : (f g : ℕ → ℕ) → ((q : ℕ) → f q ≤ g q) → weighed cores weight f ≤ weighed cores weight g
  unfolding weighed
  weighed_mono f g less = below_mono _ _ cores (λ q. mul-le-mul_right _ (less q))

  pub weighed-plus : (f g : ℕ → ℕ) → weighed cores weight (λ q. f q + g q) ≡ weighed cores weight f + weighed cores weight g
  unfolding weighed
  weighed-plus f g = below-same _ _ cores (λ q h. omega arith) ∙ below-plus (weighed_at weight f) (weighed_at weight g) cores

  pub weighed-high : (f : ℕ → ℕ) (many highest : ℕ) → ((q : ℕ) → q < cores → (f q ≤ many) × ((get_or weight q (ps 0)).0 ≤ highest)) → weighed cores weight f ≤ cores * (many * highest)
  unfolding weighed
  weighed-high f many highest each = below-high _ cores (many * highest) (λ q h. mul-le-mul (each q h).0 (each q h).1)

  pub weighed_fewer : (f : ℕ → ℕ) (q : ℕ) → q ≤ cores → weighed q weight f ≤ weighed cores weight f
  unfolding weighed
  weighed_fewer f q few = let e : q + (cores - q) ≡ cores = omega arith in rw e at (below_fewer (weighed_at weight f) q (cores - q))

  pub others_are : {begins asks doubled : List ℕ} → Doubled cores begins asks doubled
      → others_with cores weight (λ q. get_or doubled q 0) ≡ others_with cores weight (twice_on begins asks)
  others_are {begins} {asks} {doubled} so =
      ap (λ (n : ℕ). record { cores = cores; weight = weight; floor = ps n }) (weighed-same (λ q. get_or doubled q 0) (twice_on begins asks) (λ q h. (so.each q h).is))

-- what a loop has summed before the core in place q
pub record Weighing (weight : List Picos) (requests : List ℕ) (q s : ℕ) : Type 0 where
  pub is : s ≡ weighed q weight (λ k. get_or requests k 0)
  pub high : s ≤ q * (32 * (2 * 10 ^ 6) * (2 * 10 ^ 7))

module _ {weight : List Picos} {requests : List ℕ} where
  pub weighing_none : Weighing weight requests 0 0
  unfolding weighed sum_below
  weighing_none = record { is = refl; high = zero-le }

  pub weighing_next : {q s next : ℕ} → Weighing weight requests q s → FitsAt weight requests q → next ≡ s + get_or requests q 0 * (get_or weight q (ps 0)).0
      → Weighing weight requests (q + 1) next
  unfolding weighed
  weighing_next {q} so fits step = record {
    is = rw (below_next (weighed_at weight (λ k. get_or requests k 0)) q) (omega (arith, so.is));
    high = omega (arith, so.high, mul-le-mul fits.requests-high fits.weight-high);
  }
