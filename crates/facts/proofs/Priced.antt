-- The job delay at any prices that leave the own core free: it never falls, steps only where the count of a task elsewhere does, and is
-- no less where tasks ask for more at prices that are no less. Every kind of board uses these laws. Assumes nothing.
use mathlib.Core.Path.{◌≡◌, refl, sym, ◌∙◌}
use mathlib.Core.Bool.{Bool, true, false, cond, not}
use mathlib.Core.List.{Memᴰ}
use Prim.Native.Nat.{ℕ, ◌+◌, ◌*◌, ◌≤◌}
use native.Mathlib.Omega.{arith}
use native.Mathlib.Nat.{le_refl, le_of_eq, le_antisymm, mul_comm, mul-le-mul}
use borrow.Author.Tests.{eqb-true}
use Rattle.laws.specs.Idioms.{sum_over, up_to}
use Rattle.laws.proofs.Linear.{sum_same, sum_times, sum-those, sum_swap, sum-only}
use Rattle.laws.specs.Pairs.{Paired}
use Rattle.laws.proofs.Paired.{paired_self, sum_paired}
use Rattle.rules.specs.declared.Task.{Task}
use Rattle.rules.specs.declared.Table.{Table}
use Rattle.rules.specs.Tasks.{C, H, releases, tasks_of, is_on, tasks_on, elsewhere, arrivals}
use Rattle.facts.specs.Prices.{job_at}
use Rattle.facts.specs.Steady.{Steady, NoMore}
use Rattle.facts.specs.Sound.{Sound}
use Rattle.facts.proofs.SoundTasks.{sound-all}
use Rattle.facts.proofs.Releases.{releases_rise}

-- ---- task by task

-- what a task's jobs in x cost, at a price for each request
abbrev jobs : ℕ → Task → ℕ → ℕ
jobs x j price = (releases j x + 1) * (H j * price)

module _ (t : Table) (price : ℕ → ℕ) (x : ℕ) where
  arrivals_by_task : (q : ℕ) → arrivals t q x * price q ≡ sum_over (tasks_of t) (λ j. cond (is_on q j) (jobs x j (price q)) 0)
  unfolding arrivals tasks_on
  arrivals_by_task q =
      let asked : Task → ℕ = λ j. (releases j x + 1) * H j in
      mul_comm _ (price q)
      ∙ sym (sum_times (price q) asked (tasks_on t q))
      ∙ sum_same (λ j. price q * asked j) (λ j. jobs x j (price q)) (tasks_on t q) (λ j m. omega arith)
      ∙ sum-those (is_on q) (λ j. jobs x j (price q)) (tasks_of t)

  job_of_all : Sound t → job_at t price x ≡ sum_over (tasks_of t) (λ j. jobs x j (price j.core))
  unfolding job_at
  job_of_all s =
      sum_same _ _ (up_to t.cores) (λ q m. arrivals_by_task q)
      ∙ sum_swap (λ q j. cond (is_on q j) (jobs x j (price q)) 0) (up_to t.cores) (tasks_of t)
      ∙ sum_same _ _ (tasks_of t)
      (λ j m. let core = (sound-all t s m).core_in in sum-only (λ q. jobs x j (price q)) j.core t.cores core.low core.high)

  module _ (p : ℕ) (free : price p ≡ 0) where
    own_free : (j : Task) → jobs x j (price j.core) ≡ cond (not (is_on p j)) (jobs x j (price j.core)) 0
    own_free j = go (is_on p j) refl
      where
        go : (b : Bool) → is_on p j ≡ b → jobs x j (price j.core) ≡ cond (not b) (jobs x j (price j.core)) 0
        go true e = rw (eqb-true j.core p e, free) (omega arith)
        go false e = refl

    job_by_task : Sound t → job_at t price x ≡ sum_over (elsewhere t p) (λ j. jobs x j (price j.core))
    unfolding elsewhere
    job_by_task s =
        job_of_all s
        ∙ sum_same _ _ (tasks_of t) (λ j m. own_free j)
        ∙ sym (sum-those (λ j. not (is_on p j)) (λ j. jobs x j (price j.core)) (tasks_of t))

-- ---- one comparison, of which all else is a case

-- a task elsewhere in x asks for no more than another in y, at a price that is no more
pub record NoDearer (older newer : ℕ → ℕ) (x y : ℕ) (i j : Task) : Type 0 where
  pub asks : NoMore x y i j
  pub costs : older i.core ≤ newer j.core

module _ (p : ℕ) {f g : ℕ → ℕ} (free : f p ≡ 0) (free' : g p ≡ 0) where
  pub job_no_more : (older newer : Table) → Sound older → Sound newer → (x y : ℕ)
      → Paired (NoDearer f g x y) (elsewhere older p) (elsewhere newer p) → job_at older f x ≤ job_at newer g y
  job_no_more older newer was is x y less =
      rw (job_by_task older f x p free was, job_by_task newer g y p free' is)
      (sum_paired (λ j. jobs x j (f j.core)) (λ j. jobs y j (g j.core))
      (λ i j h. mul-le-mul (omega (arith, h.asks.often)) (mul-le-mul h.asks.requests h.costs))
      less)

module _ (t : Table) (s : Sound t) (p : ℕ) (price : ℕ → ℕ) (free : price p ≡ 0) where
  job_later : (x y : ℕ) → ((j : Task) → Memᴰ j (elsewhere t p) → releases j x ≤ releases j y) → job_at t price x ≤ job_at t price y
  job_later x y often =
      job_no_more p {f = price} {g = price} free free t t s s x y
      (paired_self (elsewhere t p)
      (λ j m. record {
        asks = record { exec = le_refl (C j); requests = le_refl (H j); often = often j m };
        costs = le_refl (price j.core);
      }))

  pub priced-steady : (r : ℕ) → Steady (record { per_request = r; per_job = job_at t price }) (elsewhere t p)
  priced-steady r = record {
    rises = λ x y later. job_later x y (λ j m. releases_rise j x y later);
    steps = λ x y same.
        le_antisymm (job_later x y (λ j m. le_of_eq (same j m))) (job_later y x (λ j m. le_of_eq (sym (same j m))));
  }
