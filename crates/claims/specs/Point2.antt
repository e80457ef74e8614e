-- Point 2 of docs/CLAIMS.md, of the operations that judge one task and all: what a verdict says, fresh and from a given start. (What point 2 says
-- of delay figures is the figures' list of the crate `rules`; what it says of files is in `Files`.) Assumes nothing.
use Rattle.std.specs.Prelude.{ℕ, ◌≤◌, ◌≡◌, true, false, List, ◌↔◌}
use Rattle.equation.specs.Outcome.{Solution, Smallest}
use Rattle.rules.specs.declared.Table.{Table}
use Rattle.rules.specs.declared.Answer.{Answer}
use Rattle.rules.specs.declared.Verdict.{Verdict}
use Rattle.rules.specs.declared.Delay.{Delay}
use Rattle.rules.specs.declared.Delay.TheVariants.{Request}
use Rattle.rules.specs.declared.Verdict.TheVariants.{Holds, Misses}
use Rattle.laws.specs.Idioms.{entry}
use Rattle.rules.specs.Kinds.{is_salvaged}
use Rattle.rules.specs.Units.{ps}
use Rattle.rules.specs.Tasks.{latest, task_of, core_of, higher}
use Rattle.rules.specs.Board.{memory_of}
use Rattle.rules.specs.Response.{F, request, job}
use Rattle.rules.specs.Judgement.{misses, start_of, IsBound}
use Rattle.rules.specs.Chain.{accepted, is_accepted}
use Rattle.rules.specs.Operations.{judge_one, judge_all, fresh_starts}
use Rattle.file_claims.specs.Files.{AcceptedTable}

-- a table that may be judged: it is accepted and is not salvaged (RULES 7.8). Points 2 and 3 speak of no other
pub record MayBeJudged (t : Table) : Type 0 where
  pub accepted : AcceptedTable t
  pub not_salvaged : is_salvaged t ≡ false

-- a task of such a table
pub record JudgedTask (t : Table) (k : ℕ) : Type 0 where
  pub table : MayBeJudged t
  pub first : 1 ≤ k
  pub last : k ≤ t.tasks

-- the answer to task number k among the answers to all
abbrev pub task_answer : ℕ → List Answer → Answer
task_answer k answers = entry (misses 0) answers k

-- which delay decided at R: RULES 5.5, with its tie
pub record Decided (t : Table) (k R : ℕ) (by : Delay) : Type 0 where
  pub is_request : (by ≡ Request)
      ↔ (request (memory_of t (core_of t k)) (task_of t k) (higher t k) R ≤ job (memory_of t (core_of t k)) R)

-- a verdict on task k is right, where solutions are looked for from a time on up to the latest allowed response, its deadline
-- (`Smallest f a d r`: r is the smallest solution of r = f r from a to d)
pub record Right (t : Table) (k from : ℕ) (v : Verdict) : Type 0 where
  -- it holds with the bound R exactly if R is the smallest solution
  pub holds : (R : ℕ) → ((by : Delay) × (v ≡ Holds (ps R) by)) ↔ Smallest (F t k) from (latest (task_of t k)) R
  -- and misses exactly if there is no solution
  pub misses : (v ≡ Misses) ↔ ((R : ℕ) → ¬ Solution (F t k) from (latest (task_of t k)) R)
  pub decided : (R : ℕ) (by : Delay) → v ≡ Holds (ps R) by → Decided t k R by

-- point 2: RULES 5.5 of every task of a table that may be judged, judged fresh
pub record PointTwo : Type 0 where
  -- a fresh start is never refused
  pub one-fresh : (t : Table) (k : ℕ) → JudgedTask t k → (judge_one t k 0).refusal ≡ accepted
  pub all-fresh : (t : Table) → MayBeJudged t → (judge_all t fresh_starts).refusal ≡ accepted
  -- it holds with the bound that the rules name
  pub bound : (t : Table) (k : ℕ) → JudgedTask t k → (R : ℕ)
      → ((by : Delay) × ((judge_one t k 0).answer.verdict ≡ Holds (ps R) by)) ↔ IsBound t k R
  pub one : (t : Table) (k : ℕ) → JudgedTask t k → Right t k 1 (judge_one t k 0).answer.verdict
  pub all : (t : Table) (k : ℕ) → JudgedTask t k → Right t k 1 (task_answer k (judge_all t fresh_starts).answers).verdict
  -- RULES 6.2: from a given start
  pub one_from : (t : Table) (k start : ℕ) → is_accepted (judge_one t k start).refusal ≡ true
      → Right t k (start_of t k start) (judge_one t k start).answer.verdict
  pub all_from : (t : Table) (starts : List ℕ) → is_accepted (judge_all t starts).refusal ≡ true → (k : ℕ) → 1 ≤ k → k ≤ t.tasks
      → Right t k (start_of t k (entry 0 starts k)) (task_answer k (judge_all t starts).answers).verdict

-- task k holds from a fresh start, with a bound no later than R
pub record HoldsFresh (t : Table) (k R : ℕ) : Type 0 where
  pub bound : ℕ
  pub by : Delay
  pub fresh : (judge_one t k 0).answer.verdict ≡ Holds (ps bound) by
  pub no_later : bound ≤ R

-- A start that is not refused errs only to the safe side: a task that holds from it holds fresh, with a bound no later.
pub record SafeSide : Type 0 where
  pub one : (t : Table) (k start : ℕ) → is_accepted (judge_one t k start).refusal ≡ true
      → (R : ℕ) (by : Delay) → (judge_one t k start).answer.verdict ≡ Holds (ps R) by → HoldsFresh t k R
  pub all : (t : Table) (starts : List ℕ) → is_accepted (judge_all t starts).refusal ≡ true → (k : ℕ) → 1 ≤ k → k ≤ t.tasks
      → (R : ℕ) (by : Delay) → (task_answer k (judge_all t starts).answers).verdict ≡ Holds (ps R) by → HoldsFresh t k R
