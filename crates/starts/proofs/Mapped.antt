-- What an array's `map` gives is the list mapped, where each call answers so. Assumes nothing.
use mathlib.Core.Path.{◌≡◌, ◌∙◌, sym}
use mathlib.Core.List.{List, map}
use Prim.Native.Nat.{ℕ, ◌<◌}
use native.Mathlib.Omega.{arith}
use denote.Param.Members.{Mut, Called}
use lib.ListN.{length, length-map}
use Rattle.std.specs.Array.{IsMapOf}
use Rattle.std.proofs.lemmas.List.{same_lists, get_or-map}

module _ {F A B : Type 0} (g : Mut F (A × Unit {0}) B) (f : F) (h : A → B) (xs : List A) (ys : List B) (n : ℕ) where
  pub mapped : IsMapOf g f xs ys n → length xs ≡ n → A → ((p q : F) (x : A) (y : B) → Called g p (x, tt) y q → y ≡ h x) → ys ≡ map h xs
  mapped so long d call =
      same_lists ys (map h xs) (omega (arith, so.long, length-map xs h)) (λ k e lt.
      let low : k < n = omega (arith, so.long) in
      let one = so.at k d e low in
      call one.0 one.1 _ _ one.2 ∙ sym (get_or-map h xs k d e (omega arith)))
