-- What the rounds of one task's terms give from a start. Assumes nothing.
use Rattle.std.specs.Prelude.{ℕ, ◌≤◌, ◌^◌, max, Bool, cond, ltb, Option, None, Some}
use Rattle.equation.specs.Rounds as rounds
use Rattle.rules.specs.declared.Answer.{Answer}
use Rattle.rules.specs.Judgement.{with_delay}
use Rattle.terms.specs.declared.Own.{Own}
use Rattle.terms.specs.Terms.{Terms, time_of, by_of, Fair}

-- the lowest start
unfoldable pub lowest_of : Own → ℕ
lowest_of own = own.exec

-- the start that the rounds use: RULES 6.1
abbrev pub start_from : Terms → ℕ → ℕ
start_from m given = max (lowest_of m.own) given

-- the answer by the rounds from there
unfoldable pub answer_of : Terms → ℕ → Answer
answer_of m given =
    let run = rounds.solve (time_of m) (lowest_of m.own) m.own.latest given in
    record { verdict = with_delay (by_of m) run.verdict; rounds = run.rounds }

-- refusal 14 (RULES 9.3): F lowers that start
unfoldable pub is_high : Terms → ℕ → Bool
is_high m given = ltb (time_of m (start_from m given)) (start_from m given)

-- refused, no answer
unfoldable pub climbed : Terms → ℕ → Option Answer
climbed m given = cond (is_high m given) None (Some (answer_of m given))

-- the terms of an accepted task, with a start that is not late
pub record Ready (m : Terms) (given : ℕ) : Type 0 where
  pub fair : Fair m
  pub lowest-low : 1 ≤ lowest_of m.own
  pub lowest-high : lowest_of m.own ≤ m.own.latest
  pub latest-high : m.own.latest ≤ 10 ^ 12
  pub given-high : given ≤ m.own.latest
