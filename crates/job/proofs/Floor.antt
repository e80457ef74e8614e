-- Job is its floor and what comes later; at time 0 it is half its floor. Assumes nothing.
use mathlib.Core.Path.{◌≡◌, ap, ◌∙◌}
use mathlib.Core.List.{List}
use Prim.Native.Nat.{ℕ, ◌+◌, ◌*◌, ◌≤◌, ◌^◌}
use native.Mathlib.Omega.{arith}
use lib.ListN.{get_or}
use Rattle.rules.specs.declared.Picos.{Picos}
use Rattle.counts.specs.Counts.{sum_from, later_of}
use Rattle.counts.proofs.Sums.{asked_later, asked_first}
use Rattle.floors.specs.declared.Others.{Others}
use Rattle.floors.specs.Floors.{weighed, twice_on}
use Rattle.floors.proofs.Weighed.{weighed-same, weighed-plus, weighed-high, twice_high}
use Rattle.job.specs.Job.{arrived_on, job_by, Groups}

-- the requests of the core in place q after the first jobs of its tasks
unfoldable pub later_on : List ℕ → List ℕ → List ℕ → ℕ → ℕ → ℕ
later_on begins periods asks t q = sum_from (later_of t periods asks) (get_or begins q 0) (get_or begins (q + 1) 0)

module _ {others : Others} {begins periods asks : List ℕ} (g : Groups others begins periods asks) where
  floor : others.floor.0 ≡ weighed others.cores others.weight (twice_on begins asks)
  floor = ap (λ (x : Picos). x.0) g.floor_is

  pub floor-high : others.floor.0 ≤ 8 * (32 * (2 * 10 ^ 6) * (2 * 10 ^ 7))
  unfolding twice_on
  floor-high =
      let each = weighed-high others.cores others.weight (twice_on begins asks) (32 * (2 * 10 ^ 6)) (2 * 10 ^ 7)
      (λ q h. (twice_high (g.each q h).slots.bounded, (g.each q h).weight-high)) in
      omega (arith, floor, each, g.few)

  pub job_later : (t : ℕ) → 1 ≤ t → job_by others begins periods asks t ≡ others.floor.0 + weighed others.cores others.weight (later_on begins periods asks t)
  unfolding job_by arrived_on twice_on later_on
  job_later t low =
      rw floor
      (weighed-same others.cores others.weight _ _ (λ q h. asked_later low (g.each q h).slots)
      ∙ weighed-plus others.cores others.weight (twice_on begins asks) (later_on begins periods asks t))

  pub job-first : others.floor.0 ≡ job_by others begins periods asks 0 + job_by others begins periods asks 0
  unfolding job_by arrived_on twice_on
  job-first =
      rw floor
      (weighed-same others.cores others.weight _ _ (λ q h. asked_first (g.each q h).slots)
      ∙ weighed-plus others.cores others.weight (arrived_on begins periods asks 0) (arrived_on begins periods asks 0))
