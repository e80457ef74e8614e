-- The starts that are not refused (`Allowed`), and what `solve` gives from one (`FromStart`). Assumes nothing.
use Rattle.std.specs.Prelude.{List, ◌≡◌, ℕ, ◌≤◌, ◌<◌, max}
use Rattle.equation.specs.Equation.{most-rounds}
use Rattle.equation.specs.Outcome.{Correct}
use Rattle.equation.specs.Rounds.{Course, solve}

-- the given start is at most D; and where the lowest is too, F does not lower the larger, from which the rounds start
pub record Allowed (F : ℕ → ℕ) (L D start : ℕ) : Type 0 where
  pub given : start ≤ D
  pub rises : L ≤ D → max L start ≤ F (max L start)

-- the verdict is that of the least solution at or above the start, the rounds are those of the equation, none where the lowest start is
-- above D, and no more than the limit
pub record FromStart (F : ℕ → ℕ) (L D : ℕ) (cs : List (ℕ → ℕ)) (start : ℕ) : Type 0 where
  pub right : Correct F (max L start) D (solve F L D start).verdict
  pub course : L ≤ D → Course F D (max L start) (solve F L D start).verdict (solve F L D start).rounds
  pub none : D < L → (solve F L D start).rounds ≡ 0
  pub limit : (solve F L D start).rounds ≤ most-rounds D cs
