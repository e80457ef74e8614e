-- The response equation of one task from plain lists: what the arrays that the rounds borrow stand for. Assumes nothing.
use Rattle.std.specs.Prelude.{ℕ, ◌+◌, ◌*◌, ◌≤◌, ◌^◌, min, cond, List, leb}
use Rattle.rules.specs.declared.Delay.{Delay}
use Rattle.rules.specs.declared.Delay.TheVariants.{Request, Job}
use Rattle.counts.specs.declared.Grouped.{Grouped}
use Rattle.counts.specs.Counts.{asked_by, Slots}
use Rattle.job.specs.Job.{Groups, job_by}
use Rattle.terms.specs.declared.Own.{Own}
use Rattle.terms.specs.declared.Applied.{Applied}

-- its own figures; where each core's tasks begin; T, C and H of the tasks, core after core
pub record Terms : Type 0 where
  pub own : Own
  pub begins : List ℕ
  pub periods : List ℕ
  pub execs : List ℕ
  pub asks : List ℕ

abbrev pub terms_of : Own → List ℕ → List ℕ → List ℕ → List ℕ → Terms
terms_of own begins periods execs asks = record { own = own; begins = begins; periods = periods; execs = execs; asks = asks }

abbrev pub terms_in : Own → Grouped → Terms
terms_in own tasks = terms_of own tasks.begins tasks.periods tasks.execs tasks.requests

-- what the higher tasks of the core ask for: those from the first of the core to the task itself
abbrev pub above_of : Terms → List ℕ → ℕ → ℕ
above_of m costs t = asked_by 0 t m.own.first m.own.place m.periods costs

-- the two delays: RULES 5.2, RULES 5.3
unfoldable pub request_of : Terms → ℕ → ℕ
request_of m t = m.own.delay.0 * (m.own.requests + above_of m m.asks t)

unfoldable pub job_of : Terms → ℕ → ℕ
job_of m t = job_by m.own.others m.begins m.periods m.asks t

-- F: RULES 5.4
unfoldable pub time_of : Terms → ℕ → ℕ
time_of m t = m.own.exec + above_of m m.execs t + min (request_of m t) (job_of m t)

-- which delay decided: RULES 5.5
unfoldable pub by_of : Terms → ℕ → Delay
by_of m t = cond (leb (request_of m t) (job_of m t)) Request Job

unfoldable pub applied : Terms → ℕ → Applied
applied m t = record { time = time_of m t; by = by_of m t }

pub record Fair (m : Terms) : Type 0 where
  pub exec-high : m.own.exec ≤ 10 ^ 12
  pub requests-high : m.own.requests ≤ 10 ^ 6
  pub execs : Slots (10 ^ 12) m.own.first m.own.place m.periods m.execs
  pub asks : Slots (10 ^ 6) m.own.first m.own.place m.periods m.asks
  pub groups : Groups m.own.others m.begins m.periods m.asks
