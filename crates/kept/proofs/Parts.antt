-- Two lists that agree in a part agree in the parts of it; and numbers in a row, mapped alike. Assumes nothing.
use mathlib.Core.Path.{◌≡◌, refl, sym, ap, ◌∙◌}
use mathlib.Core.List.{List, [], ◌∷◌, map}
use Prim.Native.Nat.{ℕ, zero, suc, ◌+◌, ◌-◌, ◌≤◌, ◌<◌}
use native.Mathlib.Nat.{zero-add}
use native.Mathlib.Omega.{arith}
use lib.ListN.{take, drop}
use lib.Seq.{take-nil, take-take, drop-drop}
use Rattle.laws.specs.Idioms.{from, part}

drop-take : (i m : ℕ) (l : List ℕ) → drop i (take (i + m) l) ≡ take m (drop i l)
drop-take zero m l = rw zero-add
drop-take (suc i) m [] = rw (take-nil (suc i + m), take-nil m)
drop-take (suc i) m (x ∷ l) = let e : suc i + m ≡ suc (i + m) = omega arith in rw e (drop-take i m l)

-- a part of a part
part_inner : (s : List ℕ) (at n i k : ℕ) → i + k ≤ n → part (part s at n) i k ≡ part s (at + i) k
part_inner s at n i k h =
    let e : n ≡ i + (n - i) = omega arith in
    rw (e, drop-take i (n - i) (drop at s), take-take k (n - i) (drop i (drop at s)) (omega arith), drop-drop i at s)

pub parts-agree : (l s : List ℕ) (at n : ℕ) → part l at n ≡ part s at n → (i k : ℕ) → at ≤ i → i + k ≤ at + n → part l i k ≡ part s i k
parts-agree l s at n same i k low high =
    let e : at + (i - at) ≡ i = omega arith in
    let inner : (r : List ℕ) → part (part r at n) (i - at) k ≡ part r i k = λ r. rw e at (part_inner r at n (i - at) k (omega arith)) in
    sym (inner l) ∙ ap (λ (r : List ℕ). part r (i - at) k) same ∙ inner s

pub row-agree : {A : Type 0} {f g : ℕ → A} (a n : ℕ) → ((k : ℕ) → k < a + n → f k ≡ g k) → map f (from a n) ≡ map g (from a n)
unfolding from
row-agree a zero same = refl
row-agree a (suc n) same = rw (same a (omega arith), row-agree (a + 1) n (λ k less. same k (omega arith)))
