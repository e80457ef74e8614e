-- Every task of lent columns, as a loop over places judges them: 13, or 14, or the answers; i places are passed, and place i has number i + 1. Assumes nothing.
use mathlib.Core.Path.{◌≡◌, refl, sym, ap, ◌∙◌}
use mathlib.Core.Bool.{Bool}
use mathlib.Core.List.{List, map}
use Prim.Native.Nat.{ℕ, ◌+◌, ◌-◌, ◌≤◌, ◌<◌}
use native.Mathlib.Omega.{arith}
use lib.ListN.{get_or, set}
use Rattle.std.specs.Prelude.{Result, Ok, Err, Some, None, is_none, unwrap_or, IsErrAnd}
use Rattle.laws.specs.Idioms.{from, up_to, filled}
use Rattle.laws.proofs.Places.{place_next}
use Rattle.rules.specs.declared.Refusal.{Refusal}
use Rattle.rules.specs.declared.Answer.{Answer}
use Rattle.rules.specs.Judgement.{misses}
use Rattle.rules.specs.Chain.{accepted, refused, granted}
use Rattle.rules.specs.Operations.{no_answers}
use Rattle.facts.proofs.Chain.{stops_at, goes_on_to, was-allowed}
use Rattle.facts.proofs.First.{Left, left-all, left-next, left-none, first-hit, first-clear}
use Rattle.climb.specs.Run.{climbed}
use Rattle.unjudged.specs.Unjudged.{first_after}
use Rattle.own.specs.declared.Lent.{Lent}
use Rattle.rounds.specs.Lent.{climbed_at, terms_at, first_lowered, answered_or, judged_lent}

abbrev pub lowers : Lent → List ℕ → ℕ → Bool
lowers l starts k = is_none (climbed_at l starts k)

abbrev pub answer_to : Lent → List ℕ → ℕ → Answer
answer_to l starts k = unwrap_or (climbed_at l starts k) (misses 0)

-- i places are judged and nothing was refused
pub record Running (l : Lent) (starts : List ℕ) (i : ℕ) (answers : List Answer) : Type 0 where
  pub left : Left 14 (lowers l starts) l.board.tasks i
  pub answers_are : answers ≡ filled 32 (misses 0) (map (answer_to l starts) (up_to i))

module _ (l : Lent) (starts : List ℕ) where
  abbrev tardy : Refusal
  tardy = first_after l.board.tasks l.latest starts

  -- what the code answers
  abbrev answered : Result (List Answer) Refusal
  answered = granted (judged_lent l starts).refusal (judged_lent l starts).answers

  -- what judging the task in place i gives is that of its number
  pub at_number : (i : ℕ) → climbed (terms_at l i) (get_or starts i 0) ≡ climbed_at l starts (i + 1)
  unfolding climbed_at
  at_number i = let less : i + 1 - 1 ≡ i = omega arith in rw less

  pub stops-late : {r : Result (List Answer) Refusal} {d : Refusal} → IsErrAnd r (λ e. e ≡ d) → Err d ≡ granted tardy (tt {0}) → r ≡ answered
  unfolding answered_or
  stops-late h e = stops_at tardy (first_lowered l starts) (tt {0}) _ h e

  pub none_judged : Running l starts 0 no_answers
  unfolding from
  none_judged = record { left = left-all _ _ _; answers_are = refl }

  module _ {v : Unit {0}} (on-time : Ok v ≡ granted tardy (tt {0})) (i : ℕ) {answers : List Answer} (run : Running l starts i answers) where
    pub stops-high : i < l.board.tasks → None ≡ climbed_at l starts (i + 1) → {r : Result (List Answer) Refusal} → r ≡ Err (refused 14 (i + 1)) → r ≡ answered
    unfolding answered_or first_lowered
    stops-high here none is =
        goes_on_to tardy (first_lowered l starts) (tt {0}) _ on-time (is ∙ first-hit 14 (lowers l starts) l.board.tasks _ i run.left (omega arith) here (rw (← none)))

    pub goes_on_low : i < l.board.tasks → i < 32 → {answer : Answer} → Some answer ≡ climbed_at l starts (i + 1) → Running l starts (i + 1) (set answers i answer)
    goes_on_low here few {answer} some =
        let is : answer ≡ answer_to l starts (i + 1) = rw (← some) in
        record {
          left = left-next 14 (lowers l starts) l.board.tasks i run.left here (rw (← some));
          answers_are = rw (run.answers_are, is) (place_next (misses 0) (answer_to l starts) 32 i few);
        }

    pub all-answered : i ≤ l.board.tasks → l.board.tasks ≤ i → Ok answers ≡ answered
    unfolding answered_or first_lowered
    all-answered low done =
        let all : i ≡ l.board.tasks = omega arith in
        let passed = (was-allowed tardy (tt {0}) (sym on-time)).0 in
        let none : accepted ≡ first_lowered l starts = left-none 14 (lowers l starts) l.board.tasks i run.left done in
        let are : answers ≡ (judged_lent l starts).answers = rw (run.answers_are, all, passed, ← none) in
        ap Ok are ∙ goes_on_to tardy (first_lowered l starts) (tt {0}) _ on-time (first-clear 14 (lowers l starts) l.board.tasks _ i run.left done)
