-- Job as a loop over the cores adds it up, from its floor. Assumes nothing.
use mathlib.Core.Path.{◌≡◌}
use mathlib.Core.List.{List}
use Prim.Native.Nat.{ℕ, ◌+◌, ◌*◌, ◌/◌, ◌≤◌, ◌^◌}
use native.Mathlib.Omega.{arith}
use lib.ListN.{get_or}
use Rattle.rules.specs.Units.{ps}
use Rattle.counts.specs.Counts.{sum_below}
use Rattle.counts.proofs.Sums.{below_next}
use Rattle.floors.specs.declared.Others.{Others}
use Rattle.floors.specs.Floors.{weighed_at, weighed}
use Rattle.floors.proofs.Weighed.{weighed_fewer}
use Rattle.job.specs.Job.{job_by, Reached, Charged, Group, Groups}
use Rattle.job.proofs.Floor.{later_on, floor-high, job_later, job-first}

-- the floor, and what the cores before place q cost after the first jobs: at most so much for each of their tasks
pub record Added (others : Others) (begins periods asks : List ℕ) (t q s : ℕ) : Type 0 where
  pub is : s ≡ others.floor.0 + weighed q others.weight (later_on begins periods asks t)
  pub high : s ≤ others.floor.0 + get_or begins q 0 * (10000 * (2 * 10 ^ 13))
  pub fits : s ≤ 33 * (10000 * (2 * 10 ^ 13))

module _ {others : Others} {begins periods asks : List ℕ} (g : Groups others begins periods asks) {t : ℕ} where
  pub added_none : Added others begins periods asks t 0 others.floor.0
  unfolding weighed sum_below
  added_none = record { is = omega arith; high = omega arith; fits = omega (arith, floor-high g) }

  pub added_next : {q s r : ℕ} → Added others begins periods asks t q s → Group others begins periods asks q
      → Charged (get_or begins q 0) (get_or begins (q + 1) 0) periods asks (get_or others.weight q (ps 0)).0 t r → Added others begins periods asks t (q + 1) (s + r)
  unfolding weighed later_on
  added_next {q} so here more =
      let low = here.slots.bounded in
      record {
        is = rw (below_next (weighed_at others.weight (later_on begins periods asks t)) q) (omega (arith, so.is, more.is));
        high = omega (arith, so.high, more.high, low.rises);
        fits = omega (arith, so.high, more.high, low.rises, low.few, floor-high g);
      }

  -- the sum at its end; before, where it has reached request; at time 0
  pub reached-all : {request s : ℕ} → 1 ≤ t → Added others begins periods asks t others.cores s → Reached request (job_by others begins periods asks t) s
  reached-all {request} {s} some so =
      let same : s ≡ job_by others begins periods asks t = omega (arith, so.is, job_later g t some) in
      record { low = omega arith; full = λ h. same; high = so.fits }

  pub reached-early : {request q s : ℕ} → 1 ≤ t → q ≤ others.cores → request ≤ s → Added others begins periods asks t q s → Reached request (job_by others begins periods asks t) s
  reached-early {q = q} some few enough so =
      record {
        low = omega (arith, so.is, job_later g t some, weighed_fewer others.cores others.weight (later_on begins periods asks t) q few);
        full = λ h. absurd (omega arith);
        high = so.fits;
      }

pub reached-first : {others : Others} {begins periods asks : List ℕ} → Groups others begins periods asks → {request r : ℕ} → r ≡ others.floor.0 / 2
    → Reached request (job_by others begins periods asks 0) r
reached-first {others} {begins} {periods} {asks} g {request} {r} half =
    let same : r ≡ job_by others begins periods asks 0 = omega (arith, job-first g) in
    record { low = omega arith; full = λ h. same; high = omega (arith, floor-high g) }
