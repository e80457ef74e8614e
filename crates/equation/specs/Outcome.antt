-- What the rounds end in, and when that is correct: the least solution of R = F(R) from s to D, or that there is none. Assumes nothing.
use Rattle.std.specs.Prelude.{◌≡◌, ℕ, ◌≤◌}

-- a bound, or none up to the deadline
pub data Outcome : Type 0 where
  found : ℕ → Outcome
  nothing : Outcome

pub record Solution (F : ℕ → ℕ) (s D R : ℕ) : Type 0 where
  pub from : s ≤ R
  pub upto : R ≤ D
  pub solves : R ≡ F R

-- R is the smallest whole time from s to D that satisfies the equation
pub record Smallest (F : ℕ → ℕ) (s D R : ℕ) : Type 0 where
  pub solution : Solution F s D R
  pub smallest : (r : ℕ) → Solution F s D r → R ≤ r

pub data Correct (F : ℕ → ℕ) (s D : ℕ) : Outcome → Type 0 where
  least : {R : ℕ} → Smallest F s D R → Correct F s D (found R)
  none : ((r : ℕ) → ¬ Solution F s D r) → Correct F s D nothing
