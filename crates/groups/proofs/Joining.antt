-- The places on a core, written after those that are there, as a loop over the tasks writes them. Assumes nothing.
use mathlib.Core.Path.{◌≡◌, refl}
use mathlib.Core.Bool.{Bool, true, false, cond}
use mathlib.Core.List.{List, [], ◌∷◌, ◌++◌, append-nil, append_assoc}
use Prim.Native.Nat.{ℕ, ◌+◌, ◌≤◌, ◌<◌}
use native.Mathlib.Nat.{le_refl, add-zero}
use native.Mathlib.Numerals.{add-one}
use native.Mathlib.Omega.{arith}
use lib.Dec.{eqb}
use lib.ListN.{length-set, take, get_or, set, replicate}
use lib.Seq.{take-suc-set, take-set-le}
use Rattle.laws.proofs.Fill.{set_keeps}
use Rattle.laws.proofs.Filled.{only_default}
use Rattle.standing.specs.OnCore.{places_on}
use Rattle.standing.proofs.PlacesOn.{places_none, places_next, count_next}
use Rattle.groups.specs.Grouped.{PlacesBelow, Joined}

-- no place written yet
pub low_zeros : {n : ℕ} → 1 ≤ n → PlacesBelow n (replicate 33 0)
low_zeros some = record { each = λ k. rw only_default (omega arith); long = refl }

low-set : {n : ℕ} {order : List ℕ} → PlacesBelow n order → (e : ℕ) {i : ℕ} → i < n → PlacesBelow n (set order e i)
low-set {n} {order} low e small = record { each = λ k. set_keeps (λ y. y < n) order e k low.each small; long = rw length-set low.long }

module _ (core : List ℕ) (q : ℕ) where
  -- one task more: its place is written after the others, and counts where it is on the core
  module _ {n m : ℕ} {old : List ℕ} where
    pub joined-none : PlacesBelow n old → Joined n (places_on core q 0) m m old old
    joined-none low = record { count = rw places_none (omega arith); is = rw (places_none, append-nil); low = low }

    pub joined-next : (i : ℕ) {e k : ℕ} {out : List ℕ} → i < n → e < 33 → Joined n (places_on core q i) m e old out → k ≡ cond (eqb (get_or core i 0) q) 1 0
        → Joined n (places_on core q (i + 1)) m (e + k) old (set out e i)
    joined-next i {e} {k} {out} small fits so one =
        record {
          count = omega (arith, count_next core q i, so.count, one);
          is = rw (places_next core q i, ← append_assoc (take m old) (places_on core q i) _, ← so.is, one) (go (eqb (get_or core i 0) q));
          low = low-set so.low e small;
        }
      where
        go : (b : Bool) → take (e + cond b 1 0) (set out e i) ≡ take e out ++ cond b (i ∷ []) []
        go true = rw add-one (take-suc-set out e i (omega (arith, so.low.long)))
        go false = rw (add-zero, append-nil) (take-set-le e out e i (le_refl e))
