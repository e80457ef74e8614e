-- A sum is linear: it passes through a sum, a factor, a test of the members and another sum. Assumes nothing.
use mathlib.Core.Path.{◌≡◌, refl, sym, ap₂, ◌∙◌}
use mathlib.Core.Bool.{Bool, true, false, cond}
use mathlib.Core.List.{List, [], ◌∷◌, Memᴰ}
use Prim.Native.Nat.{ℕ, zero, suc, ◌+◌, ◌*◌, ◌≤◌, ◌<◌}
use native.Mathlib.Omega.{arith}
use native.Mathlib.Decide.{ℕ_discrete}
use lib.Dec.{eqb}
use borrow.Author.Tests.{eq-eqb, ne_eqb}
use Rattle.laws.specs.Idioms.{sum_over, those, from, up_to}

times_cond : (n : ℕ) (b : Bool) (c : ℕ) → cond b (n * c) 0 ≡ n * cond b c 0
times_cond n true c = refl
times_cond n false c = omega arith

module _ {A : Type 0} where
  -- equal for each member, equal in sum
  pub sum_same : (f g : A → ℕ) (l : List A) → ((x : A) → Memᴰ x l → f x ≡ g x) → sum_over l f ≡ sum_over l g
  sum_same f g [] same = refl
  sum_same f g (x ∷ xs) same =
      ap₂ ◌+◌ (same x (Memᴰ.head refl)) (sum_same f g xs (λ y m. same y (Memᴰ.tail m)))

  pub sum-plus : (f g : A → ℕ) (l : List A) → sum_over l (λ x. f x + g x) ≡ sum_over l f + sum_over l g
  sum-plus f g [] = refl
  sum-plus f g (x ∷ xs) = omega (arith, sum-plus f g xs)

  pub sum_times : (c : ℕ) (f : A → ℕ) (l : List A) → sum_over l (λ x. c * f x) ≡ c * sum_over l f
  sum_times c f [] = omega arith
  sum_times c f (x ∷ xs) = omega (arith, sum_times c f xs)

  pub sum_zero : (l : List A) → sum_over l (λ x. 0) ≡ 0
  sum_zero [] = refl
  sum_zero (x ∷ xs) = omega (arith, sum_zero xs)

  -- the members that pass a test, as all of them with nothing for the others
  pub sum-those : (p : A → Bool) (f : A → ℕ) (l : List A) → sum_over (those p l) f ≡ sum_over l (λ x. cond (p x) (f x) 0)
  sum-those p f [] = refl
  sum-those p f (x ∷ xs) = go (p x) (sum-those p f xs)
    where
      go : (b : Bool) → sum_over (those p xs) f ≡ sum_over xs (λ y. cond (p y) (f y) 0)
          → sum_over (cond b (x ∷ those p xs) (those p xs)) f ≡ cond b (f x) 0 + sum_over xs (λ y. cond (p y) (f y) 0)
      go true h = omega arith
      go false h = omega arith

  pub sum-those_times : (p : A → Bool) (f : A → ℕ) (c : ℕ) (l : List A)
      → sum_over (those p l) (λ x. f x * c) ≡ sum_over l (λ x. f x * cond (p x) c 0)
  sum-those_times p f c l = sum-those p (λ x. f x * c) l ∙ sum_same _ _ l (λ x m. times_cond (f x) (p x) c)

-- the order of two sums
pub sum_swap : {A B : Type 0} (f : A → B → ℕ) (xs : List A) (ys : List B)
    → sum_over xs (λ x. sum_over ys (λ y. f x y)) ≡ sum_over ys (λ y. sum_over xs (λ x. f x y))
sum_swap f [] ys = sym (sum_zero ys)
sum_swap f (x ∷ xs) ys =
    omega (arith, sum_swap f xs ys, sum-plus (λ y. f x y) (λ y. sum_over xs (λ z. f z y)) ys)

-- a test that only one number passes
module _ (f : ℕ → ℕ) (c : ℕ) where
  abbrev only : ℕ → ℕ
  only q = cond (eqb c q) (f q) 0

  only-past : (a n : ℕ) → c < a → sum_over (from a n) only ≡ 0
  unfolding from
  only-past a zero h = refl
  only-past a (suc n) h = rw (ne_eqb c a (λ e. omega arith)) (omega (arith, only-past (a + 1) n (omega arith)))

  only-from : (a n : ℕ) → a ≤ c → c < a + n → sum_over (from a n) only ≡ f c
  unfolding from
  only-from a zero low high = absurd (omega arith)
  only-from a (suc n) low high = go (ℕ_discrete c a) (λ l. only-from (a + 1) n l (omega arith))
    where
      go : Dec (c ≡ a) → (a + 1 ≤ c → sum_over (from (a + 1) n) only ≡ f c) → only a + sum_over (from (a + 1) n) only ≡ f c
      go (yes e) rest = rw (eq-eqb c a e, ← e) (omega (arith, only-past (c + 1) n (omega arith)))
      go (no ne) rest = rw (ne_eqb c a ne) (omega (arith, rest (omega (arith, ne))))

  pub sum-only : (n : ℕ) → 1 ≤ c → c ≤ n → sum_over (up_to n) only ≡ f c
  sum-only n low high = only-from 1 n low (omega arith)
