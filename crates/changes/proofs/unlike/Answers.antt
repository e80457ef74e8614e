-- Two lists compared, place by place, as far as the longer reaches. Assumes nothing.
use borrow.Author.Rules.{rules}
use mathlib.Core.Path.{◌≡◌, ◌∙◌}
use mathlib.Core.List.{List}
use Prim.Native.Nat.{ℕ, ◌-◌, ◌<◌}
use native.Mathlib.Omega.{arith}
use lib.ListN.{length, get_or-eq_default}
use Rattle.std.specs.Prelude.{Option, None, max}
use Rattle.laws.specs.Idioms.{entry}
use Rattle.changes.specs.declared.Change.{Change}
use Rattle.changes.specs.Difference.{unequal, unlike}
use Rattle.changes.proofs.First.{as_far}
use Rattle.changes.proofs.unlike.Goals as goal

at : {W : Type 0} → W → List ℕ → List ℕ → ℕ → Option (Change W)
at what a b k = unequal what k (entry 0 a k) (entry 0 b k)

beyond : {W : Type 0} (what : W) (a b : List ℕ) (k : ℕ) → max (length a) (length b) < k → at what a b k ≡ None
unfolding at
beyond what a b k h =
    rw (get_or-eq_default a 0 {n = k - 1} (omega (arith, h)), get_or-eq_default b 0 {n = k - 1} (omega (arith, h)))

pub returns : goal.returns
unfolding unlike at
returns g c =
    let a = c.args in
    c.first_of.ensures (at a.what a.a.now a.b.now) (λ k d low high post. search rules)
    ∙ rw c.last_place.ensures (as_far (at a.what a.a.now a.b.now) a.n (max (length a.a.now) (length a.b.now)) (beyond a.what a.a.now a.b.now))
