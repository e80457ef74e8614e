-- A column of a list, filled place by place. Assumes nothing.
use mathlib.Core.Path.{◌≡◌, refl}
use mathlib.Core.List.{List, map}
use Prim.Native.Nat.{ℕ, ◌+◌, ◌<◌}
use native.Mathlib.Numerals.{add-one}
use native.Mathlib.Omega.{arith}
use lib.ListN.{length, length-set, take, get_or, set}
use lib.Seq.{take-suc, take-suc-set}
use Rattle.laws.proofs.Runs.{map_snoc}

-- the first i places of an array with so much room
pub record Column {A : Type 0} (f : A → ℕ) (l : List A) (room i : ℕ) (out : List ℕ) : Type 0 where
  pub is : take i out ≡ map f (take i l)
  pub long : length out ≡ room

module _ {A : Type 0} {f : A → ℕ} {l : List A} {out : List ℕ} where
  pub column-none : Column f l (length out) 0 out
  column-none = record { is = refl; long = refl }

  pub column-next : {room i : ℕ} (d : A) → Column f l room i out → i < room → i < length l → Column f l room (i + 1) (set out i (f (get_or l i d)))
  column-next {room} {i} d so h g =
      record {
        is = rw (add-one i, take-suc-set out i (f (get_or l i d)) (omega (arith, so.long)), take-suc l i d g, map_snoc, so.is);
        long = rw length-set so.long;
      }
