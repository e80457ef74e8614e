-- RULES 5.5 and 6.1: the bound, and the judgement of a task from a start. The rounds are those of the crate `equation`, where their
-- theory is; here they get the table's F, and the deciding delay is laid over the bound. Assumes nothing.
use Rattle.std.specs.Prelude.{ℕ, max}
use Rattle.equation.specs.Outcome as outcome
use Rattle.equation.specs.Rounds as rounds
use Rattle.rules.specs.declared.Table.{Table}
use Rattle.rules.specs.declared.Delay.{Delay}
use Rattle.rules.specs.declared.Verdict.{Verdict}
use Rattle.rules.specs.declared.Verdict.TheVariants.{Holds, Misses}
use Rattle.rules.specs.declared.Answer.{Answer}
use Rattle.rules.specs.Units.{ps}
use Rattle.rules.specs.Tasks.{C, latest, task_of}
use Rattle.rules.specs.Response.{F, decider}

-- a miss in n rounds
abbrev pub misses : ℕ → Answer
misses n = record { verdict = Misses; rounds = n }

-- RULES 5.5: the verdict, by what the rounds ended in
abbrev pub with_delay : (ℕ → Delay) → outcome.Outcome → Verdict
with_delay by (outcome.found r) = Holds (ps r) (by r)
with_delay by outcome.nothing = Misses

-- RULES 6.1: the lowest start, C. Every start that the rounds use is at least this
unfoldable pub lowest : Table → ℕ → ℕ
lowest t k = C (task_of t k)

-- RULES 6.1: the start that the rounds use
abbrev pub start_of : Table → ℕ → ℕ → ℕ
start_of t k given = max (lowest t k) given

-- RULES 6.1: the rounds of task number k from a given start, in an accepted table: there C is at most D (RULES 2.2)
unfoldable pub rounds_of : Table → ℕ → ℕ → rounds.Solved
rounds_of t k given = rounds.solve (F t k) (lowest t k) (latest (task_of t k)) given

-- RULES 6.1: its answer, which carries their number
unfoldable pub judge : Table → ℕ → ℕ → Answer
judge t k given =
    let run = rounds_of t k given in
    record { verdict = with_delay (decider t k) run.verdict; rounds = run.rounds }

-- RULES 5.5: R is the bound of task number k
abbrev pub IsBound : Table → ℕ → ℕ → Type 0
IsBound t k R = outcome.Smallest (F t k) 1 (latest (task_of t k)) R

-- RULES 6.5: the start that an older verdict gives
abbrev pub bound_of : Verdict → ℕ
bound_of (Holds r by) = r.0
bound_of Misses = 0
