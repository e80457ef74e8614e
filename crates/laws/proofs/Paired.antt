-- Laws of two lists whose members stand in a relation, place by place. Assumes nothing.
use mathlib.Core.Path.{◌≡◌, refl}
use mathlib.Core.Bool.{Bool, true, false, cond}
use mathlib.Core.List.{List, [], ◌∷◌, Memᴰ}
use Prim.Native.Nat.{ℕ, zero, suc, ◌≤◌, ◌<◌, zero-le, suc-le-suc}
use native.Mathlib.Omega.{arith}
use native.Mathlib.Nat.{le_of_suc-le-suc}
use lib.ListN.{length, take, get_or}
use Rattle.laws.specs.Idioms.{sum_over, those}
use Rattle.laws.specs.Pairs.{Paired, none, next}

module _ {A : Type 0} where
  -- a list with itself
  pub paired_self : {R : A → A → Type 0} (l : List A) → ((x : A) → Memᴰ x l → R x x) → Paired R l l
  paired_self [] own = none
  paired_self (x ∷ xs) own = next (own x (Memᴰ.head refl)) (paired_self xs (λ y m. own y (Memᴰ.tail m)))

  -- the first places of two lists
  pub paired_take : {R : A → A → Type 0} (n : ℕ) (xs ys : List A) (d : A) → n ≤ length xs → n ≤ length ys
      → ((i : ℕ) → i < n → R (get_or xs i d) (get_or ys i d)) → Paired R (take n xs) (take n ys)
  paired_take zero xs ys d long long' at = none
  paired_take (suc n) [] ys d long long' at = absurd (omega arith)
  paired_take (suc n) (x ∷ xs) [] d long long' at = absurd (omega arith)
  paired_take (suc n) (x ∷ xs) (y ∷ ys) d long long' at =
      next (at 0 (suc-le-suc zero-le))
      (paired_take n xs ys d (le_of_suc-le-suc long) (le_of_suc-le-suc long') (λ i h. at (suc i) (suc-le-suc h)))

  module _ {R : A → A → Type 0} where
    pub paired_map : {S : A → A → Type 0} → ((x y : A) → R x y → S x y) → {xs ys : List A} → Paired R xs ys → Paired S xs ys
    paired_map f none = none
    paired_map f (next {x = x} {y = y} r rs) = next (f x y r) (paired_map f rs)

    -- the members that pass two tests that agree
    pub paired_those : (p q : A → Bool) → ((x y : A) → R x y → p x ≡ q y) → {xs ys : List A} → Paired R xs ys → Paired R (those p xs) (those q ys)
    paired_those p q agree none = none
    paired_those p q agree (next {x = x} {y = y} {xs = xs} {ys = ys} r rs) = go (p x) (q y) (agree x y r) (paired_those p q agree rs)
      where
        go : (a b : Bool) → a ≡ b → Paired R (those p xs) (those q ys)
            → Paired R (cond a (x ∷ those p xs) (those p xs)) (cond b (y ∷ those q ys) (those q ys))
        go true true e rest = next r rest
        go true false e rest = let z : ◌≡◌ {A = ℕ} 0 1 = cc in absurd (omega arith)
        go false true e rest = let z : ◌≡◌ {A = ℕ} 0 1 = cc in absurd (omega arith)
        go false false e rest = rest

    pub sum_paired : (f g : A → ℕ) → ((x y : A) → R x y → f x ≤ g y) → {xs ys : List A} → Paired R xs ys → sum_over xs f ≤ sum_over ys g
    sum_paired f g h none = zero-le
    sum_paired f g h (next {x = x} {y = y} r rs) = omega (arith, h x y r, sum_paired f g h rs)
