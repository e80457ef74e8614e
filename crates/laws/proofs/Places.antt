-- An array with a place for each number from 1 up: how a loop fills it, and what stands at a number's place. Assumes nothing.
use mathlib.Core.Path.{◌≡◌, refl}
use mathlib.Core.List.{List, [], ◌∷◌, map}
use Prim.Native.Nat.{ℕ, zero, suc, ◌+◌, ◌-◌, ◌≤◌, ◌<◌}
use native.Mathlib.Nat.{add-zero, not-suc-le-zero, le_of_suc-le-suc}
use native.Mathlib.Omega.{arith}
use lib.ListN.{length, get_or, set, get_or-append}
use Rattle.laws.specs.Idioms.{from, up_to, entry, filled}
use Rattle.laws.proofs.Fill.{fill_step}
use Rattle.laws.proofs.Runs.{map-up_to-next, length-map-from}

module _ {A : Type 0} (d : A) (f : ℕ → A) where
  pub place_next : (n i : ℕ) → i < n → set (filled n d (map f (up_to i))) i (f (i + 1)) ≡ filled n d (map f (up_to (i + 1)))
  place_next n i h = rw (map-up_to-next f i) (fill_step n d (map f (up_to i)) i (f (i + 1)) (length-map-from f i 1) h)

  at : (n a k : ℕ) → k < n → get_or (map f (from a n)) k d ≡ f (a + k)
  unfolding from
  at zero a k h = absurd (omega arith)
  at (suc n) a zero h = rw add-zero
  at (suc n) a (suc k) h = let e : a + suc k ≡ a + 1 + k = omega arith in rw e (at n (a + 1) k (omega arith))

  pub place_of : (n m q : ℕ) → 1 ≤ q → q ≤ m → entry d (filled n d (map f (up_to m))) q ≡ f q
  place_of n m q low high =
      let e : 1 + (q - 1) ≡ q = omega arith in
      rw (get_or-append (map f (up_to m)) _ d (q - 1) (rw (length-map-from f m 1) (omega arith)), at m 1 (q - 1) (omega arith), e)

-- within a list it does not matter what stands for a place beyond it
pub get_or-within : {A : Type 0} (l : List A) (i : ℕ) (d e : A) → i < length l → get_or l i d ≡ get_or l i e
get_or-within [] i d e h = absurd (not-suc-le-zero h)
get_or-within (x ∷ l) zero d e h = refl
get_or-within (x ∷ l) (suc i) d e h = get_or-within l i d e (le_of_suc-le-suc h)
