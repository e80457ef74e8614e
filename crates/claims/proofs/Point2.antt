-- Point 2 holds: what the theory says of the rounds' outcome, said of the answers of the operations; and every start errs to the safe side.
-- Assumes nothing.
use mathlib.Core.Path.{◌≡◌, refl, ap}
use mathlib.Core.Bool.{Bool, true, false, cond}
use mathlib.Core.List.{List}
use mathlib.Core.Logic.{◌↔◌}
use Prim.Native.Nat.{ℕ, ◌≤◌}
use native.Mathlib.Omega.{arith}
use native.Mathlib.Nat.{le_antisymm}
use lib.Dec.{leb}
use borrow.Author.Tests.{leb-true, le-leb}
use Rattle.equation.specs.Outcome as outcome
use Rattle.equation.specs.Outcome.{Solution, Smallest}
use Rattle.equation.proofs.Solve.{fresh-allowed}
use Rattle.rules.specs.declared.Table.{Table}
use Rattle.rules.specs.declared.Delay.{Delay}
use Rattle.rules.specs.declared.Delay.TheVariants.{Request, Job}
use Rattle.rules.specs.declared.Verdict.{Verdict}
use Rattle.rules.specs.declared.Verdict.TheVariants.{Holds, Misses}
use Rattle.laws.specs.Idioms.{entry}
use Rattle.rules.specs.Units.{ps}
use Rattle.rules.specs.Tasks.{latest, task_of, core_of, higher}
use Rattle.rules.specs.Board.{memory_of}
use Rattle.rules.specs.Response.{F, request, job, decided, decider}
use Rattle.rules.specs.Judgement.{start_of, with_delay, rounds_of, judge, bound_of}
use Rattle.rules.specs.Kinds.{is_salvaged}
use Rattle.rules.specs.Chain.{accepted, is_accepted, given}
use Rattle.rules.specs.Refusals.{check_table, check_judged, check_one, check_all}
use Rattle.facts.proofs.Chain.{both-accepted, no_fault}
use Rattle.rules.specs.Operations.{judge_one, judge_all, fresh_starts}
use Rattle.facts.proofs.Starts.{Judgeable, one-judgeable, judgeable-one}
use Rattle.facts.proofs.Instance.{equation_of_lem}
use Rattle.facts.proofs.AllStarts.{none-refused, all-judgeable, all-answered, fresh-starts, all-fresh}
use Rattle.facts.proofs.Points.{fresh-right, start_right}
use Rattle.claims.specs.Point2.{MayBeJudged, JudgedTask, task_answer, Decided, Right, PointTwo, HoldsFresh, SafeSide}
use Rattle.file_claims.proofs.NoRefusal.{one_plain}

-- ---- a verdict with its delay, by what is right of the verdict

module _ {f : ℕ → ℕ} {from deadline : ℕ} (by : ℕ → Delay) where
  smallest-one : {R S : ℕ} → Smallest f from deadline R → Smallest f from deadline S → R ≡ S
  smallest-one {R} {S} r s = le_antisymm (r.smallest S s.solution) (s.smallest R r.solution)

  holds-exactly : {v : outcome.Outcome} → outcome.Correct f from deadline v
      → (R : ℕ) → ((d : Delay) × (with_delay by v ≡ Holds (ps R) d)) ↔ Smallest f from deadline R
  holds-exactly (outcome.least {R = S} found) R = (to, back)
    where
      to : (d : Delay) × (Holds (ps S) (by S) ≡ Holds (ps R) d) → Smallest f from deadline R
      to (d, e) = let same : S ≡ R = ap bound_of e in rw (← same) found

      back : Smallest f from deadline R → (d : Delay) × (Holds (ps S) (by S) ≡ Holds (ps R) d)
      back r = let same = smallest-one r found in (by R, rw same)
  holds-exactly (outcome.none no-solution) R = (to, λ r. absurd (no-solution R r.solution))
    where
      to : (d : Delay) × (Misses ≡ Holds (ps R) d) → Smallest f from deadline R
      to (d, e) = let z : ◌≡◌ {A = ℕ} 0 1 = cc in absurd (omega arith)

  misses-exactly : {v : outcome.Outcome} → outcome.Correct f from deadline v
      → (with_delay by v ≡ Misses) ↔ ((R : ℕ) → ¬ Solution f from deadline R)
  misses-exactly (outcome.least {R = S} found) =
      (λ e. let z : ◌≡◌ {A = ℕ} 0 1 = cc in absurd (omega arith), λ no-solution. absurd (no-solution S found.solution))
  misses-exactly (outcome.none no-solution) = (λ e. no-solution, λ no. refl)

delay_of : (by : ℕ → Delay) (v : outcome.Outcome) (R : ℕ) (d : Delay) → with_delay by v ≡ Holds (ps R) d → d ≡ by R
delay_of by (outcome.found S) R d e =
    let same : S ≡ R = ap bound_of e in
    let at-S : d ≡ by S = cc in
    rw (← same) at-S
delay_of by outcome.nothing R d e = let z : ◌≡◌ {A = ℕ} 0 1 = cc in absurd (omega arith)

-- ---- the deciding delay

picks_request : (a b : ℕ) → (cond (leb a b) Request Job ≡ Request) ↔ (a ≤ b)
picks_request a b = (go (leb a b) refl, λ h. rw (le-leb a b h))
  where
    go : (t : Bool) → leb a b ≡ t → cond t Request Job ≡ Request → a ≤ b
    go true e q = leb-true a b e
    go false e q = let z : ◌≡◌ {A = ℕ} 0 1 = cc in absurd (omega arith)

decided_at : (t : Table) (k R : ℕ) → Decided t k R (decider t k R)
unfolding decider decided
decided_at t k R = record { is_request = picks_request (request (memory_of t (core_of t k)) (task_of t k) (higher t k) R) (job (memory_of t (core_of t k)) R) }

-- ---- the judgement of one task

pub judged-right : (t : Table) (k given from : ℕ) → outcome.Correct (F t k) from (latest (task_of t k)) (rounds_of t k given).verdict
    → Right t k from (judge t k given).verdict
unfolding judge
judged-right t k given from r = record {
  holds = holds-exactly (decider t k) r;
  misses = misses-exactly (decider t k) r;
  decided = λ R by e. rw (delay_of (decider t k) (rounds_of t k given).verdict R by e) (decided_at t k R);
}

-- what may be judged is what the checks before a judgement let pass
pub may : (t : Table) → MayBeJudged t → is_accepted (check_judged t) ≡ true
unfolding check_judged
may t m = simp (m.accepted, m.not_salvaged)

pub may-back : (t : Table) → is_accepted (check_judged t) ≡ true → MayBeJudged t
unfolding check_judged
may-back t passed = let (table, last) = both-accepted (check_table t) (given 18 0 (is_salvaged t)) passed in record { accepted = table; not_salvaged = no_fault 17 0 (is_salvaged t) last }

pub fresh-judgeable : (t : Table) (k : ℕ) → JudgedTask t k → Judgeable t k 0
fresh-judgeable t k task = record {
  judged = may t task.table;
  number = record { low = task.first; high = task.last };
  allowed = fresh-allowed (equation_of_lem t task.table.accepted k task.first task.last);
}

module _ (t : Table) (k start : ℕ) where
  pub one-passed : Judgeable t k start → (judge_one t k start).refusal ≡ accepted
  unfolding judge_one
  one-passed j = one_plain t k start (judgeable-one t k start j)

  pub one-answered : Judgeable t k start → (judge_one t k start).answer ≡ judge t k start
  unfolding judge_one
  one-answered j = rw (judgeable-one t k start j)

  pub one_open : is_accepted (judge_one t k start).refusal ≡ true → Judgeable t k start
  unfolding judge_one
  one_open passed = one-judgeable t k start passed

  right-from : Judgeable t k start → Right t k (start_of t k start) (judge t k start).verdict
  unfolding rounds_of
  right-from j = judged-right t k start (start_of t k start) (start_right t k start j).right

module _ (t : Table) (k : ℕ) (task : JudgedTask t k) where
  one_right : Right t k 1 (judge_one t k 0).answer.verdict
  one_right = rw (one-answered t k 0 (fresh-judgeable t k task)) (judged-right t k 0 1 (fresh-right t task.table.accepted k task.first task.last))

-- ---- and of all

all-passed : (t : Table) → MayBeJudged t → (judge_all t fresh_starts).refusal ≡ accepted
unfolding judge_all
all-passed t table = none-refused t (may t table) fresh_starts (all-fresh t table.accepted)

module _ (t : Table) (starts : List ℕ) (passed : is_accepted (judge_all t starts).refusal ≡ true) (k : ℕ) (low : 1 ≤ k) (high : k ≤ t.tasks) where
  all_open : is_accepted (check_all t (entry 0 starts)) ≡ true
  unfolding judge_all
  all_open = passed

  pub answered : task_answer k (judge_all t starts).answers ≡ judge t k (entry 0 starts k)
  answered = all-answered t starts all_open k low high

  judgeable : Judgeable t k (entry 0 starts k)
  judgeable = all-judgeable t starts all_open k low high

-- the fresh answers are those of each task alone
pub fresh_answer : (t : Table) (k : ℕ) → JudgedTask t k → task_answer k (judge_all t fresh_starts).answers ≡ (judge_one t k 0).answer
fresh_answer t k task =
    let passed : is_accepted (judge_all t fresh_starts).refusal ≡ true = rw (all-passed t task.table) in
    rw (answered t fresh_starts passed k task.first task.last, fresh-starts k, one-answered t k 0 (fresh-judgeable t k task))

pub point_two : PointTwo
point_two = record {
  one-fresh = λ t k task. one-passed t k 0 (fresh-judgeable t k task);
  all-fresh = all-passed;
  bound = λ t k task. (one_right t k task).holds;
  one = one_right;
  all = λ t k task. rw (fresh_answer t k task) (one_right t k task);
  one_from = λ t k start passed. let j = one_open t k start passed in rw (one-answered t k start j) (right-from t k start j);
  all_from = λ t starts passed k low high. rw (answered t starts passed k low high) (right-from t k (entry 0 starts k) (judgeable t starts passed k low high));
}

-- ---- the safe side

module _ (t : Table) (k start : ℕ) (j : Judgeable t k start) where
  task_of_lem : JudgedTask t k
  task_of_lem = record { table = may-back t j.judged; first = j.number.low; last = j.number.high }

  pub holds-fresh : (R : ℕ) → Solution (F t k) 1 (latest (task_of t k)) R → (v : Verdict) → (judge_one t k 0).answer.verdict ≡ v → HoldsFresh t k R
  holds-fresh R solution (Holds bound by) e =
      let smallest = ((one_right t k task_of_lem).holds bound.0).0 (by, e) in
      record { bound = bound.0; by = by; fresh = e; no_later = smallest.smallest R solution }
  holds-fresh R solution Misses e = absurd ((one_right t k task_of_lem).misses.0 e R solution)

  safe : (R : ℕ) (by : Delay) → (judge t k start).verdict ≡ Holds (ps R) by → HoldsFresh t k R
  safe R by e =
      let found = (((right-from t k start j).holds R).0 (by, e)).solution in
      let task = task_of_lem in
      let low = (equation_of_lem t task.table.accepted k task.first task.last).some in
      holds-fresh R (record { from = omega (arith, found.from); upto = found.upto; solves = found.solves }) (judge_one t k 0).answer.verdict refl

pub safe_side : SafeSide
safe_side = record {
  one = λ t k start passed R by e. let j = one_open t k start passed in safe t k start j R by (rw (one-answered t k start j) at e);
  all = λ t starts passed k low high R by e.
      safe t k (entry 0 starts k) (judgeable t starts passed k low high) R by (rw (answered t starts passed k low high) at e);
}
