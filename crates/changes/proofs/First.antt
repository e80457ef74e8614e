-- The first change of two, as code asks for it by a closure; and of many places, as a loop finds it: i places have none, and place i + 1 is looked at. Assumes nothing.
use mathlib.Core.Path.{◌≡◌, refl, sym, ◌∙◌}
use mathlib.Core.Bool.{true, false}
use Prim.Native.Nat.{ℕ, zero, suc, ◌+◌, ◌-◌, ◌≤◌, ◌<◌}
use native.Mathlib.Nat.{sub-zero}
use native.Mathlib.Omega.{arith}
use Rattle.std.specs.Prelude.{Option, None, Some, is_some, min}
use Rattle.std.proofs.Math.Nat.{min-eq_left, min-eq_right}
use mathlib.Core.Logic.{inl, inr}
use Rattle.std.proofs.lemmas.Bool.{cases_lt}
use Rattle.std.specs.Option.{MatchOption}
use Rattle.changes.specs.Difference.{◌or_else◌, first_from, first_of}

-- `or_else` of a closure that gives b
pub either : {A : Type 0} (a b : Option A) {r : Option A} {P : Type 0} → MatchOption a P (λ x. r ≡ Some x) → (P → r ≡ b) → r ≡ (a or_else b)
unfolding ◌or_else◌
either None b m gives = gives m
either (Some x) b m gives = m

abbrev pub Left : {A : Type 0} → (ℕ → Option A) → ℕ → ℕ → Type 0
Left d n i = first_of d n ≡ first_from d (i + 1) (n - i)

or-some : {A : Type 0} (a b : Option A) → is_some a ≡ true → (a or_else b) ≡ a
unfolding ◌or_else◌
or-some (Some x) b h = refl
or-some None b h = absurd cc

or-none : {A : Type 0} (a b : Option A) → is_some a ≡ false → (a or_else b) ≡ b
unfolding ◌or_else◌
or-none None b h = refl
or-none (Some x) b h = absurd cc

module _ {A : Type 0} (d : ℕ → Option A) (n : ℕ) where
  pub left-all : Left d n 0
  left-all = rw sub-zero

  module _ (i : ℕ) (left : Left d n i) where
    module _ {x : Option A} (here : x ≡ d (i + 1)) (more : i < n) where
      pub left-hit : is_some x ≡ true → x ≡ first_of d n
      unfolding first_from
      left-hit h =
          let e : n - i ≡ suc (n - (i + 1)) = omega arith in
          sym (left ∙ rw (e, first_from, ← here) (or-some x _ h))

      pub left-next : is_some x ≡ false → Left d n (i + 1)
      unfolding first_from
      left-next h =
          let e : n - i ≡ suc (n - (i + 1)) = omega arith in
          left ∙ rw (e, first_from, ← here) (or-none x _ h)

    pub left-none : n ≤ i → None ≡ first_of d n
    unfolding first_from
    left-none h = let over : n - i ≡ 0 = omega arith in sym (left ∙ rw (over, first_from))

-- places from a place on that have no change
none_from : {A : Type 0} (d : ℕ → Option A) (k n : ℕ) → ((j : ℕ) → k ≤ j → d j ≡ None) → first_from d k n ≡ None
unfolding first_from ◌or_else◌
none_from d k zero clear = refl
none_from d k (suc n) clear = rw (clear k (omega arith)) (none_from d (k + 1) n (λ j h. clear j (omega arith)))

-- they change nothing behind others
none_behind : {A : Type 0} (d : ℕ → Option A) (k m r : ℕ) → ((j : ℕ) → k + m ≤ j → d j ≡ None) → first_from d k m ≡ first_from d k (m + r)
unfolding first_from
none_behind d k zero r clear = let e : zero + r ≡ r = omega arith in rw e (sym (none_from d k r (λ j h. clear j (omega (arith, h)))))
none_behind d k (suc m) r clear =
    let e : suc m + r ≡ suc (m + r) = omega arith in
    rw (e, first_from, none_behind d (k + 1) m r (λ j h. clear j (omega (arith, h)))) refl

-- so a walk may end where the last change can be
pub as_far : {A : Type 0} (d : ℕ → Option A) (n most : ℕ) → ((j : ℕ) → most < j → d j ≡ None) → first_of d (min n most) ≡ first_of d n
as_far d n most clear = elim (cases_lt most n) [
  | inr h ↦ rw (min-eq_left h) refl
  | inl h ↦
      let same : first_from d 1 most ≡ first_from d 1 (most + (n - most)) = none_behind d 1 most (n - most) (λ j g. clear j (omega (arith, g))) in
      let all : most + (n - most) ≡ n = omega (arith, h) in
      let least : min n most ≡ most = min-eq_right (omega (arith, h)) in
      rw least (rw all at same)
]
