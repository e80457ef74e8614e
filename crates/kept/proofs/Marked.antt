-- A fourth byte with bit 1 set: it is allowed where the byte was, it says that the table is salvaged, and of a bus what the byte said. Assumes nothing.
use mathlib.Core.Path.{◌≡◌, refl}
use mathlib.Core.Bool.{Bool, true, false, cond}
use Prim.Native.Nat.{ℕ, ◌+◌, ◌/◌, ◌%◌, ◌<◌}
use native.Mathlib.Omega.{arith}
use borrow.Author.Tests.{eqb-false, eq-eqb}
use Rattle.rules.specs.Kinds.{says_bus, says_salvaged, marked}

module _ (f : ℕ) where
  marked_either : (P : ℕ → Type 0) → (says_salvaged f ≡ true → P f) → (says_salvaged f ≡ false → P (f + 2)) → P (marked f)
  unfolding marked
  marked_either P was is = go (says_salvaged f) refl
    where
      go : (b : Bool) → says_salvaged f ≡ b → P (cond b f (f + 2))
      go true e = was e
      go false e = is e

  pub marked-low : f < 4 → marked f < 4
  unfolding says_salvaged
  marked-low low = marked_either (λ m. m < 4) (λ e. low) (λ e. let z = eqb-false (f / 2 % 2) 1 e in omega (arith, z))

  pub marked-says : says_salvaged (marked f) ≡ true
  unfolding says_salvaged
  marked-says =
      marked_either (λ m. says_salvaged m ≡ true) (λ e. e)
      (λ e. let z = eqb-false (f / 2 % 2) 1 e in eq-eqb ((f + 2) / 2 % 2) 1 (omega (arith, z)))

  pub marked-bus : says_bus (marked f) ≡ says_bus f
  unfolding says_bus
  marked-bus =
      marked_either (λ m. says_bus m ≡ says_bus f) (λ e. refl)
      (λ e. let same : (f + 2) / 1 % 2 ≡ f / 1 % 2 = omega arith in rw same)
