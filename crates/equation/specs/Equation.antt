-- What is asked of the F of a response equation R = F(R): that it never falls and has a lowest start (`Equation`), and that it looks at
-- the time only through counts (`Steps`), whose `renewals` limit the rounds (`most-rounds`). Assumes nothing.
use Rattle.std.specs.Prelude.{◌≡◌, ℕ, ◌+◌, ◌-◌, ◌≤◌}
use mathlib.Core.List.{List, [], ◌∷◌, Memᴰ}

-- L is the lowest start: from time 1 on, F is at least L
pub record Equation (F : ℕ → ℕ) (L : ℕ) : Type 0 where
  pub rises : (t u : ℕ) → t ≤ u → F t ≤ F u
  pub above : (t : ℕ) → 1 ≤ t → L ≤ F t
  pub some : 1 ≤ L

-- a count, as of a task's releases in a time: it never falls, and is at least 1 from time 1 on
pub record Count (c : ℕ → ℕ) : Type 0 where
  pub rises : (t u : ℕ) → t ≤ u → c t ≤ c u
  pub some : (t : ℕ) → 1 ≤ t → 1 ≤ c t

-- F looks at the time only through the counts cs
pub record Steps (F : ℕ → ℕ) (cs : List (ℕ → ℕ)) : Type 0 where
  pub counts : (c : ℕ → ℕ) → Memᴰ c cs → Count c
  pub steps : (t u : ℕ) → ((c : ℕ → ℕ) → Memᴰ c cs → c t ≡ c u) → F t ≡ F u

-- how often the counts have gone up by the time t since they were 1: the sum of each, less 1
unfoldable pub renewals : ℕ → List (ℕ → ℕ) → ℕ
renewals t [] = 0
renewals t (c ∷ cs) = (c t - 1) + renewals t cs

-- the limit on the rounds up to D
abbrev pub most-rounds : ℕ → List (ℕ → ℕ) → ℕ
most-rounds D cs = 2 + renewals D cs
