-- Of counts: between two times either one is renewed, or all stay the same. Assumes nothing.
use mathlib.Core.Path.{◌≡◌, refl}
use mathlib.Core.List.{List, [], ◌∷◌, Memᴰ}
use Prim.Native.Nat.{ℕ, ◌≤◌, zero-le}
use native.Mathlib.Omega.{arith}
use Rattle.equation.specs.Equation.{Count, renewals}

abbrev Each : List (ℕ → ℕ) → Type 0
Each cs = (c : ℕ → ℕ) → Memᴰ c cs → Count c

first : {c : ℕ → ℕ} {cs : List (ℕ → ℕ)} → Each (c ∷ cs) → Count c
first {c} each = each c (Memᴰ.head refl)

rest : {c : ℕ → ℕ} {cs : List (ℕ → ℕ)} → Each (c ∷ cs) → Each cs
rest each d m = each d (Memᴰ.tail m)

module _ {t u : ℕ} (pos : 1 ≤ t) (later : t ≤ u) where
  pub renewals_rise : (cs : List (ℕ → ℕ)) → Each cs → renewals t cs ≤ renewals u cs
  unfolding renewals
  renewals_rise [] each = zero-le
  renewals_rise (c ∷ cs) each = omega (arith, (first each).rises t u later, renewals_rise cs (rest each))

  pub renewals-same : {c : ℕ → ℕ} {cs : List (ℕ → ℕ)} → Each cs → renewals u cs ≤ renewals t cs → Memᴰ c cs → c t ≡ c u
  unfolding renewals
  renewals-same {cs = []} each none m = elim m [ ]
  renewals-same {cs = d ∷ cs} each none (Memᴰ.head e) =
      rw e (omega (arith, (first each).rises t u later, (first each).some t pos, renewals_rise cs (rest each)))
  renewals-same {cs = d ∷ cs} each none (Memᴰ.tail m) =
      renewals-same (rest each) (omega (arith, (first each).rises t u later, (first each).some t pos)) m
