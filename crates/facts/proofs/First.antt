-- The first place at fault, as a loop finds it: i places have been passed, and place i + 1 is looked at. Assumes nothing.
use mathlib.Core.Path.{◌≡◌, refl, sym, ◌∙◌}
use mathlib.Core.Bool.{Bool, true, false, cond}
use Prim.Native.Nat.{ℕ, zero, suc, ◌+◌, ◌-◌, ◌≤◌, ◌<◌}
use native.Mathlib.Decide.{ℕ_discrete}
use native.Mathlib.Nat.{sub-zero}
use native.Mathlib.Omega.{arith}
use borrow.Author.Tests.{eqb-true}
use Rattle.std.specs.Prelude.{Ok, Err}
use Rattle.rules.specs.Chain.{accepted, refused, is_accepted, first_from, first, granted}
use Rattle.facts.proofs.Chain.{faulty, allowed}

-- what is left of looking for the first fault of places 1 to m after i of them
abbrev pub Left : ℕ → (ℕ → Bool) → ℕ → ℕ → Type 0
Left n fault m i = first n fault m ≡ first_from n fault (i + 1) (m - i)

module _ (n : ℕ) (fault : ℕ → Bool) (m : ℕ) where
  pub left-all : Left n fault m 0
  left-all = rw sub-zero

  module _ (i : ℕ) (left : Left n fault m i) where
    pub left-hit : i < m → fault (i + 1) ≡ true → refused n (i + 1) ≡ first n fault m
    unfolding first_from
    left-hit h t = let e : m - i ≡ suc (m - (i + 1)) = omega arith in sym (left ∙ rw (e, first_from, t))

    pub left-next : i < m → fault (i + 1) ≡ false → Left n fault m (i + 1)
    unfolding first_from
    left-next h t = let e : m - i ≡ suc (m - (i + 1)) = omega arith in left ∙ rw (e, first_from, t)

    pub left-none : m ≤ i → accepted ≡ first n fault m
    unfolding first_from
    left-none h = let e : m - i ≡ 0 = omega arith in sym (left ∙ rw (e, first_from))

-- the same of what code answers
module _ {A : Type 0} (n : ℕ) (fault : ℕ → Bool) (m : ℕ) (x : A) (i : ℕ) (left : Left n fault m i) where
  pub first-hit : 1 ≤ n → i < m → fault (i + 1) ≡ true → Err (refused n (i + 1)) ≡ granted (first n fault m) x
  first-hit low h t = faulty n (i + 1) x low refl ∙ rw (left-hit n fault m i left h t) refl

  pub first-clear : m ≤ i → Ok x ≡ granted (first n fault m) x
  first-clear h = sym (allowed accepted x refl) ∙ rw (left-none n fault m i left h) refl

-- where nothing is refused, no place is at fault
module _ (n : ℕ) (fault : ℕ → Bool) where
  none_from : (k m : ℕ) → is_accepted (first_from (suc n) fault k m) ≡ true → (i : ℕ) → k ≤ i → i < k + m → fault i ≡ false
  unfolding first_from
  none_from k zero e i low high = absurd (omega arith)
  none_from k (suc m) e i low high = go (fault k) refl e (λ q low' high'. none_from (k + 1) m q i low' high')
    where
      next : fault k ≡ false → (k + 1 ≤ i → i < k + 1 + m → fault i ≡ false) → Dec (i ≡ k) → fault i ≡ false
      next f rest (yes same) = rw same f
      next f rest (no other) = rest (omega (arith, other)) (omega arith)

      go : (b : Bool) → fault k ≡ b → is_accepted (cond b (refused (suc n) k) (first_from (suc n) fault (k + 1) m)) ≡ true
          → (is_accepted (first_from (suc n) fault (k + 1) m) ≡ true → k + 1 ≤ i → i < k + 1 + m → fault i ≡ false) → fault i ≡ false
      go true f e rest = absurd (omega (arith, eqb-true (suc n) 0 e))
      go false f e rest = next f (rest e) (ℕ_discrete i k)

  pub none_first : (m : ℕ) → is_accepted (first (suc n) fault m) ≡ true → (i : ℕ) → 1 ≤ i → i ≤ m → fault i ≡ false
  none_first m e i low high = none_from 1 m e i low (omega arith)

  -- and back
  none-given : (k m : ℕ) → ((i : ℕ) → k ≤ i → i < k + m → fault i ≡ false) → first_from n fault k m ≡ accepted
  unfolding first_from
  none-given k zero clear = refl
  none-given k (suc m) clear =
      rw (clear k (omega arith) (omega arith)) (none-given (k + 1) m (λ i low high. clear i (omega arith) (omega arith)))

  pub first-none : (m : ℕ) → ((i : ℕ) → 1 ≤ i → i ≤ m → fault i ≡ false) → first n fault m ≡ accepted
  first-none m clear = none-given 1 m (λ i low high. clear i low (omega arith))

-- by two tests that agree
module _ (n : ℕ) {f g : ℕ → Bool} where
  from-same : (k m : ℕ) → ((i : ℕ) → k ≤ i → i < k + m → f i ≡ g i) → first_from n f k m ≡ first_from n g k m
  unfolding first_from
  from-same k zero same = refl
  from-same k (suc m) same =
      rw (same k (omega arith) (omega arith), from-same (k + 1) m (λ i low high. same i (omega arith) (omega arith)))

  pub first-same : (m : ℕ) → ((i : ℕ) → 1 ≤ i → i ≤ m → f i ≡ g i) → first n f m ≡ first n g m
  first-same m same = from-same 1 m (λ i low high. same i low (omega arith))
