-- Faults as code tests them: one or another by `||`, where the rules say what both allow; and a comparison turned round. Assumes nothing.
use Prim.Native.Nat.{ℕ}
use mathlib.Core.Path.{◌≡◌, refl}
use mathlib.Core.Bool.{Bool, true, false, not, ◌&&◌}
use lib.Dec.{leb, ltb}
use borrow.Author.Tests.{lt-ltb, le-ltb, le-leb, lt-leb, leb-true, leb-false, ltb-true, ltb-false}

module _ {v : Bool} where
  pub one-fault : (x b : Bool) → v ≡ not x → v ≡ true → v ≡ not (x && b)
  one-fault true b e h = absurd cc
  one-fault false b e h = h

  pub other_fault : (x b : Bool) → v ≡ not x → v ≡ false → {r : Bool} → r ≡ not b → r ≡ not (x && b)
  other_fault true b e h r = r
  other_fault false b e h r = absurd cc

-- a comparison turned round
pub not_most : (a b : ℕ) → ltb a b ≡ not (leb b a)
not_most a b = go (leb b a) refl
  where
    go : (x : Bool) → leb b a ≡ x → ltb a b ≡ not x
    go true e = le-ltb a b (leb-true b a e)
    go false e = lt-ltb a b (leb-false b a e)

pub not_less : (a b : ℕ) → leb a b ≡ not (ltb b a)
not_less a b = go (ltb b a) refl
  where
    go : (x : Bool) → ltb b a ≡ x → leb a b ≡ not x
    go true e = lt-leb a b (ltb-true b a e)
    go false e = le-leb a b (ltb-false b a e)
