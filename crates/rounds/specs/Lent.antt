-- What judging the tasks of lent columns gives. Places are counted from 0, numbers from 1. Assumes nothing.
use Rattle.std.specs.Prelude.{ℕ, ◌+◌, ◌-◌, ◌≤◌, ◌<◌, ◌≡◌, cond, List, map, length, get_or, Option, is_none, unwrap_or}
use Rattle.laws.specs.Idioms.{Within, entry, up_to, filled}
use Rattle.rules.specs.declared.Answer.{Answer}
use Rattle.rules.specs.declared.Refusal.{Refusal}
use Rattle.rules.specs.Results.{AllJudged}
use Rattle.rules.specs.Judgement.{misses}
use Rattle.rules.specs.Chain.{is_accepted, first, ◌or_else◌}
use Rattle.rules.specs.Operations.{no_answers}
use Rattle.standing.specs.OnCore.{places_on}
use Rattle.floors.specs.Floors.{Lots}
use Rattle.terms.specs.declared.Own.{Own}
use Rattle.terms.specs.Terms.{Terms, terms_in}
use Rattle.climb.specs.Run.{Ready, climbed}
use Rattle.own.specs.declared.Lent.{Lent}
use Rattle.own.specs.Own.{own_of}
use Rattle.unjudged.specs.Unjudged.{first_after}

-- where the task in place i stands: after those before it on its core
unfoldable pub place_at : Lent → ℕ → ℕ
place_at l i = get_or l.tasks.begins (get_or l.core i 0 - 1) 0 + length (places_on l.core (get_or l.core i 0) i)

-- its own figures, and the terms of its equation
abbrev pub own_at : Lent → ℕ → Own
own_at l i = own_of l i (place_at l i)

abbrev pub terms_at : Lent → ℕ → Terms
terms_at l i = terms_in (own_at l i) l.tasks

-- what judging task number k gives, from its start
unfoldable pub climbed_at : Lent → List ℕ → ℕ → Option Answer
climbed_at l starts k = climbed (terms_at l (k - 1)) (entry 0 starts k)

-- what the code may rely on
pub record Judgeable (l : Lent) : Type 0 where
  pub few : l.board.tasks ≤ 32
  pub long : length l.tasks.begins ≡ 9
  pub costs-long : length l.board.costs ≡ 8
  pub lots : Lots l.board.cores l.tasks.begins l.tasks.requests
  pub core_in : (i : ℕ) → i < l.board.tasks → Within 1 8 (get_or l.core i 0)
  pub place_low : (i : ℕ) → i < l.board.tasks → place_at l i ≤ 32
  pub ready : (i start : ℕ) → i < l.board.tasks → start ≤ get_or l.latest i 0 → Ready (terms_at l i) start

-- 14 with the first start that F lowers
unfoldable pub first_lowered : Lent → List ℕ → Refusal
first_lowered l starts = first 14 (λ k. is_none (climbed_at l starts k)) l.board.tasks

-- refused, or an answer a task
unfoldable pub answered_or : Lent → List ℕ → Refusal → AllJudged
answered_or l starts r =
    let answers = filled 32 (misses 0) (map (λ k. unwrap_or (climbed_at l starts k) (misses 0)) (up_to l.board.tasks)) in
    record { refusal = r; answers = cond (is_accepted r) answers no_answers }

abbrev pub judged_lent : Lent → List ℕ → AllJudged
judged_lent l starts = answered_or l starts (first_after l.board.tasks l.latest starts or_else first_lowered l starts)
