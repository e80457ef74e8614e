-- An older verdict: the start that it gives (`carried`), which of two verdicts is no later (`≼`), and what point 3 says of the
-- rounds from the carried start (`Carries`). Assumes nothing.
use Rattle.std.specs.Prelude.{List, ℕ, ◌≤◌}
use Rattle.equation.specs.Outcome.{Outcome, found, nothing, Correct}
use Rattle.equation.specs.Rounds.{solve}
use Rattle.equation.specs.Start.{Allowed, FromStart}

-- its bound, or 0 where it missed
abbrev pub carried : Outcome → ℕ
carried (found R) = R
carried nothing = 0

-- no later: a smaller bound, or whatever against a miss
infix 4 ◌≼◌
pub data ◌≼◌ : Outcome → Outcome → Type 0 where
  sooner : {R R' : ℕ} → R ≤ R' → found R ≼ found R'
  missed : {v : Outcome} → v ≼ nothing

-- A start that is not refused, from which the verdict is that of point 2, in no more rounds than from a fresh start.
pub record Carries (F : ℕ → ℕ) (L D : ℕ) (cs : List (ℕ → ℕ)) (start : ℕ) : Type 0 where
  pub allowed : Allowed F L D start
  pub judged : FromStart F L D cs start
  pub right : Correct F 1 D (solve F L D start).verdict
  pub no_more : (solve F L D start).rounds ≤ (solve F L D 0).rounds
