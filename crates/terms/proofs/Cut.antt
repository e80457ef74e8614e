-- F by its parts, with request cut off at the largest u64 and job added up until it reaches request: what was added is below that, so the smaller of
-- the two and which decided are unchanged. Assumes nothing.
use mathlib.Core.Path.{◌≡◌}
use mathlib.Core.Bool.{true, false}
use Prim.Native.Nat.{ℕ, ◌+◌, ◌*◌, ◌≤◌, ◌<◌, min}
use native.Mathlib.Omega.{arith}
use lib.Dec.{leb}
use borrow.Author.Tests.{le-leb, lt-leb}
use Rattle.rules.specs.declared.Delay.TheVariants.{Request, Job}
use Rattle.job.specs.Job.{Reached}
use Rattle.terms.specs.declared.Applied.{Applied}
use Rattle.terms.specs.Terms.{Terms, above_of, request_of, job_of, time_of, by_of, applied}

module _ (m : Terms) (t : ℕ) {execs asked request sum top : ℕ} (exec-is : execs ≡ above_of m m.execs t) (Asked-is : asked ≡ above_of m m.asks t)
    (cut : request ≡ min (m.own.delay.0 * (m.own.requests + asked)) top) (so : Reached request (job_of m t) sum) (small : sum < top) where
  cut_is : request ≡ min (request_of m t) top
  unfolding request_of
  cut_is = rw Asked-is at cut

  pub by_request : request ≤ sum → ◌≡◌ {A = Applied} (record { time = m.own.exec + execs + request; by = Request }) (applied m t)
  unfolding applied time_of by_of
  by_request h =
      let least : min (request_of m t) (job_of m t) ≡ request = omega (arith, cut_is, so.low) in
      let first : leb (request_of m t) (job_of m t) ≡ true = le-leb (request_of m t) (job_of m t) (omega (arith, cut_is, so.low)) in
      rw (first, least, exec-is)

  pub by_job : sum < request → ◌≡◌ {A = Applied} (record { time = m.own.exec + execs + sum; by = Job }) (applied m t)
  unfolding applied time_of by_of
  by_job h =
      let least : min (request_of m t) (job_of m t) ≡ sum = omega (arith, cut_is, so.full h) in
      let second : leb (request_of m t) (job_of m t) ≡ false = lt-leb (request_of m t) (job_of m t) (omega (arith, cut_is, so.full h)) in
      rw (second, least, exec-is)
