-- What is known of each member of a list that a rule makes. Assumes nothing.
use mathlib.Core.Path.{◌≡◌, refl}
use mathlib.Core.Bool.{Bool, true, false, cond}
use mathlib.Core.List.Memᴰ
use mathlib.Core.List.{List, [], ◌∷◌, map, Memᴰ}
use Prim.Native.Nat.{ℕ, zero, suc, ◌+◌, ◌≤◌, ◌<◌, zero-le, suc-le-suc}
use native.Mathlib.Omega.{arith}
use native.Mathlib.Decide.{ℕ_discrete}
use lib.ListN.{take, get_or}
use Rattle.laws.specs.Idioms.{those, from, up_to}

module _ {A : Type 0} where
  -- of those that pass a test: it is one of all, and passes
  pub member_those : (p : A → Bool) (l : List A) {x : A} → Memᴰ x (those p l) → Memᴰ x l × (p x ≡ true)
  member_those p [] m = absurd (Memᴰ.not-nil m)
  member_those p (y ∷ ys) {x} m = go (p y) refl (λ m. member_those p ys m) m
    where
      go : (b : Bool) → p y ≡ b → (Memᴰ x (those p ys) → Memᴰ x ys × (p x ≡ true))
          → Memᴰ x (cond b (y ∷ those p ys) (those p ys)) → Memᴰ x (y ∷ ys) × (p x ≡ true)
      go true e rest (Memᴰ.head same) = (Memᴰ.head same, rw same e)
      go true e rest (Memᴰ.tail m) = (Memᴰ.tail (rest m).0, (rest m).1)
      go false e rest m = (Memᴰ.tail (rest m).0, (rest m).1)

  -- of the first n: it stands at a place below n
  pub member_take : (n : ℕ) (l : List A) (d : A) {x : A} → Memᴰ x (take n l) → (i : ℕ) × (i < n) × (x ≡ get_or l i d)
  member_take zero l d m = absurd (Memᴰ.not-nil m)
  member_take (suc n) [] d m = absurd (Memᴰ.not-nil m)
  member_take (suc n) (y ∷ ys) d (Memᴰ.head same) = (0, suc-le-suc zero-le, same)
  member_take (suc n) (y ∷ ys) d (Memᴰ.tail m) =
      let place = member_take n ys d m in
      (suc place.0, suc-le-suc place.1, place.2)

-- of the numbers from a up, and from 1 to n
member_from : (a n : ℕ) {q : ℕ} → Memᴰ q (from a n) → (a ≤ q) × (q < a + n)
unfolding from
member_from a zero m = absurd (Memᴰ.not-nil m)
member_from a (suc n) (Memᴰ.head same) = omega arith
member_from a (suc n) (Memᴰ.tail m) = let rest = member_from (a + 1) n m in omega arith

pub member_up_to : (n : ℕ) {q : ℕ} → Memᴰ q (up_to n) → (1 ≤ q) × (q ≤ n)
member_up_to n m = let inside = member_from 1 n m in omega arith

from_has : (a n k : ℕ) → a ≤ k → k < a + n → Memᴰ k (from a n)
unfolding from
from_has a zero k low high = absurd (omega arith)
from_has a (suc n) k low high = go (ℕ_discrete k a) (λ l. from_has (a + 1) n k l (omega arith))
  where
    go : Dec (k ≡ a) → (a + 1 ≤ k → Memᴰ k (from (a + 1) n)) → Memᴰ k (a ∷ from (a + 1) n)
    go (yes same) rest = Memᴰ.head same
    go (no other) rest = Memᴰ.tail (rest (omega (arith, other)))

pub up_to_has : (n k : ℕ) → 1 ≤ k → k ≤ n → Memᴰ k (up_to n)
up_to_has n k low high = from_has 1 n k low (omega arith)

-- ---- what agrees for every member makes the same list

module _ {A : Type 0} where
  pub those-same : (p q : A → Bool) (l : List A) → ((x : A) → Memᴰ x l → p x ≡ q x) → those p l ≡ those q l
  those-same p q [] same = refl
  those-same p q (x ∷ xs) same =
      rw (same x (Memᴰ.head refl), those-same p q xs (λ y m. same y (Memᴰ.tail m)))

  pub map_same : {B : Type 0} (f g : A → B) (l : List A) → ((x : A) → Memᴰ x l → f x ≡ g x) → map f l ≡ map g l
  map_same f g [] same = refl
  map_same f g (x ∷ xs) same =
      rw (same x (Memᴰ.head refl), map_same f g xs (λ y m. same y (Memᴰ.tail m)))
