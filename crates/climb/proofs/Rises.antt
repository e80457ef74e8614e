-- The equation of one task's terms is one of the theory's; what the loop keeps; and the answer is that of its rounds. Assumes nothing.
use mathlib.Core.Path.{◌≡◌, refl, ap}
use mathlib.Core.Logic.{◌≢◌}
use mathlib.Core.List.{List}
use Prim.Native.Nat.{ℕ, ◌+◌, ◌≤◌, ◌<◌, max}
use native.Mathlib.Nat.{mul-le-mul_left, le_refl}
use native.Mathlib.Decide.{dec_le}
use native.Mathlib.Omega.{arith}
use lib.ListN.{get_or}
use borrow.Author.Tests.{lt-ltb, le-ltb}
use Rattle.std.specs.Prelude.{Some, None}
use Rattle.equation.specs.Equation.{Equation}
use Rattle.equation.specs.Outcome.{Outcome}
use Rattle.equation.specs.Rounds.{Rounds}
use Rattle.equation.specs.Start.{Allowed}
use Rattle.laws.proofs.Quotients.{ceil-rises}
use Rattle.equation.proofs.Solve.{solve-only}
use Rattle.equation.proofs.Loop.{Round, starts, Midway, midway-next, midway-holds, midway-misses}
use Rattle.rules.specs.declared.Verdict.TheVariants.{Holds, Misses}
use Rattle.rules.specs.Units.{ps}
use Rattle.rules.specs.Judgement.{with_delay}
use Rattle.counts.proofs.Sums.{asked_mono}
use Rattle.floors.proofs.Weighed.{weighed_mono}
use Rattle.job.specs.Job.{arrived_on, job_by}
use Rattle.terms.specs.Terms.{Terms, above_of, request_of, job_of, time_of, by_of, applied}
use Rattle.terms.specs.declared.Applied.{Applied}
use Rattle.climb.specs.Run.{lowest_of, start_from, Ready, answer_of, is_high, climbed}

module _ (t u : ℕ) (h : t ≤ u) (m : Terms) where
  above-rises : (costs : List ℕ) → above_of m costs t ≤ above_of m costs u
  above-rises costs = asked_mono 0 m.own.first m.own.place m.periods costs t u (λ period. ceil-rises period h)

  request-rises : request_of m t ≤ request_of m u
  unfolding request_of
  request-rises = mul-le-mul_left m.own.delay.0 (omega (arith, above-rises m.asks))

  job-rises : job_of m t ≤ job_of m u
  unfolding job_of job_by arrived_on
  job-rises =
      weighed_mono m.own.others.cores m.own.others.weight _ _
      (λ q. asked_mono 1 (get_or m.begins q 0) (get_or m.begins (q + 1) 0) m.periods m.asks t u (λ period. ceil-rises period h))

  time-rises : time_of m t ≤ time_of m u
  unfolding time_of
  time-rises = omega (arith, request-rises, job-rises, above-rises m.execs)

terms_equation : (m : Terms) → 1 ≤ lowest_of m.own → Equation (time_of m) (lowest_of m.own)
unfolding time_of lowest_of
terms_equation m low = record { rises = λ t u h. time-rises t u h m; above = λ t h. omega arith; some = low }

time_is : (m : Terms) (t : ℕ) {a : Applied} → a ≡ applied m t → a.time ≡ time_of m t
unfolding applied
time_is m t e = ap (λ (a : Applied). a.time) e

by_is : (m : Terms) (t : ℕ) {a : Applied} → a ≡ applied m t → a.by ≡ by_of m t
unfolding applied
by_is m t e = ap (λ (a : Applied). a.by) e

-- ---- what the loop keeps: from the start, round n begins at t. Where F lowers the start, that is the first

pub record Going (m : Terms) (start t n : ℕ) : Type 0 where
  pub round : Round (time_of m) m.own.latest start t n
  pub low : lowest_of m.own ≤ t
  pub fits : t ≤ m.own.latest
  pub few : n ≤ t
  pub some : 1 ≤ n
  pub rises : start ≤ time_of m start → t ≤ time_of m t
  pub first : time_of m start < start → t ≡ start

module _ (m : Terms) (given : ℕ) {start : ℕ} (ok : Ready m given) (raised : start ≡ start_from m given) where
  pub going_first : Going m start start 1
  going_first =
      record {
        round = starts;
        low = omega arith;
        fits = omega (arith, ok.lowest-high, ok.given-high);
        few = omega (arith, ok.lowest-low);
        some = le_refl 1;
        rises = λ h. h;
        first = λ h. refl;
      }

  -- the first round, or a later one, does not go down
  allowed : start ≤ time_of m start → Allowed (time_of m) (lowest_of m.own) m.own.latest given
  allowed up = record { given = ok.given-high; rises = λ fits. rw raised at up }

  answer_is : start ≤ time_of m start → {v : Outcome} {n : ℕ} → Rounds (time_of m) m.own.latest start v n
      → Some (record { verdict = with_delay (by_of m) v; rounds = n }) ≡ climbed m given
  unfolding climbed is_high answer_of
  answer_is up {v} {n} k =
      let run : Rounds (time_of m) m.own.latest (max (lowest_of m.own) given) v n = rw raised at k in
      let e = solve-only (terms_equation m ok.lowest-low) (allowed up) ok.lowest-high run in
      let q : start_from m given ≤ time_of m (start_from m given) = rw raised at up in
      rw (le-ltb _ _ q, e.0, e.1)

  module _ {t n : ℕ} {a : Applied} (going : Going m start t n) (is : a ≡ applied m t) where
    time-here : a.time ≡ time_of m t
    time-here = time_is m t is

    up_first : t ≤ a.time → start ≤ time_of m start
    up_first up = go (dec_le start (time_of m start))
      where
        go : Dec (start ≤ time_of m start) → start ≤ time_of m start
        go (yes h) = h
        go (no h) =
            let same = going.first (omega (arith, h)) in
            let here : time_of m t ≡ time_of m start = ap (time_of m) same in
            omega (arith, time-here)

    midway : t ≤ a.time → Midway (time_of m) m.own.latest start t n a.time
    midway up =
        record { round = going.round; applied = time-here; rises = up; fits = going.fits; few = going.few; some = going.some }

    pub last-holds : a.time ≡ t
        → Some (record { verdict = Holds (ps t) a.by; rounds = n }) ≡ climbed m given
    last-holds e = rw (by_is m t is) (answer_is (up_first (omega arith)) (midway-holds (midway (omega arith)) e))

    pub last-misses : t ≤ a.time → m.own.latest < a.time
        → Some (record { verdict = Misses; rounds = n }) ≡ climbed m given
    last-misses up q = answer_is (up_first up) (midway-misses (midway up) q)

    pub lowered : a.time < t → None ≡ climbed m given
    unfolding climbed is_high
    lowered down = rw (lt-ltb _ _ (rw raised at (go (dec_le start (time_of m start)))))
      where
        go : Dec (start ≤ time_of m start) → time_of m start < start
        go (yes h) = absurd (omega (arith, going.rises h, time-here))
        go (no h) = omega (arith, h)

    pub going_next : t ≤ a.time → a.time ≢ t → a.time ≤ m.own.latest → Going m start a.time (n + 1)
    going_next up ne fits =
        let v = midway-next (terms_equation m ok.lowest-low) (midway up) ne fits refl in
        record {
          round = v.round;
          low = omega (arith, going.low);
          fits = fits;
          few = v.few;
          some = v.some;
          rises = λ h. v.rises;
          first = λ h. absurd (omega (arith, up_first up));
        }
