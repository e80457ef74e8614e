-- What a test that passed says of its parts, and one that cannot pass. Assumes nothing.
use mathlib.Core.Path.{◌≡◌, refl}
use mathlib.Core.Bool.{Bool, true, false, ◌&&◌, ◌||◌}
use mathlib.Core.List.{[], List, ◌∷◌, Memᴰ}
use Prim.Native.Nat.{ℕ}
use native.Mathlib.Omega.{arith}
use lib.Dec.{leb}
use borrow.Author.Tests.{leb-true}
use Rattle.laws.specs.Idioms.{within, every, Within}

pub and_both : (a b : Bool) → a && b ≡ true → (a ≡ true) × (b ≡ true)
and_both true b e = (refl, e)
and_both false b e = let z : ◌≡◌ {A = ℕ} 0 1 = cc in (absurd (omega arith), absurd (omega arith))

pub and_false : (a : Bool) → a && false ≡ false
and_false true = refl
and_false false = refl

-- a test does not pass and fail
pub clash : ◌≡◌ {A = Bool} true false → ⊥
clash e = let z : ◌≡◌ {A = ℕ} 0 1 = cc in omega arith

-- a test that cannot pass fails
pub fails : (b : Bool) → (b ≡ true → ⊥) → b ≡ false
fails true h = absurd (h refl)
fails false h = refl

pub or_neither : (a b : Bool) → a || b ≡ false → (a ≡ false) × (b ≡ false)
or_neither false b e = (refl, e)
or_neither true b e = let z : ◌≡◌ {A = ℕ} 0 1 = cc in (absurd (omega arith), absurd (omega arith))

pub inside : (lowest highest x : ℕ) → within lowest highest x ≡ true → Within lowest highest x
inside lowest highest x e =
    let h = and_both (leb lowest x) (leb x highest) e in
    record { low = leb-true lowest x h.0; high = leb-true x highest h.1 }

pub every_member : {A : Type 0} (p : A → Bool) {x : A} {l : List A} → every p l ≡ true → Memᴰ x l → p x ≡ true
every_member p {l = []} e m = elim m [ ]
every_member p {l = y ∷ ys} e (Memᴰ.head same) = rw same (and_both (p y) (every p ys) e).0
every_member p {l = y ∷ ys} e (Memᴰ.tail m) = every_member p (and_both (p y) (every p ys) e).1 m
