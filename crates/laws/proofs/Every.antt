-- A test of every place, as a loop makes it: i places have passed, and place i + 1 is looked at. Assumes nothing.
use mathlib.Core.Path.{◌≡◌, sym, ◌∙◌}
use mathlib.Core.Bool.{Bool, true, false}
use Prim.Native.Nat.{ℕ, suc, ◌+◌, ◌-◌, ◌≤◌, ◌<◌}
use native.Mathlib.Nat.{sub-zero}
use native.Mathlib.Omega.{arith}
use Rattle.laws.specs.Idioms.{every, from, up_to}

abbrev pub Rest : (ℕ → Bool) → ℕ → ℕ → Type 0
Rest p n i = every p (up_to n) ≡ every p (from (i + 1) (n - i))

module _ (p : ℕ → Bool) (n : ℕ) where
  pub rest_all : Rest p n 0
  rest_all = rw sub-zero

  module _ (i : ℕ) (rest : Rest p n i) where
    pub rest-fails : i < n → p (i + 1) ≡ false → false ≡ every p (up_to n)
    unfolding from
    rest-fails h e = let more : n - i ≡ suc (n - (i + 1)) = omega arith in sym (rest ∙ rw (more, from, e))

    pub rest-next : i < n → p (i + 1) ≡ true → Rest p n (i + 1)
    unfolding from
    rest-next h e = let more : n - i ≡ suc (n - (i + 1)) = omega arith in rest ∙ rw (more, from, e)

    pub rest-done : n ≤ i → true ≡ every p (up_to n)
    unfolding from
    rest-done h = let none : n - i ≡ 0 = omega arith in sym (rest ∙ rw (none, from))
