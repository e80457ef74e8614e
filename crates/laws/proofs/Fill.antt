-- An array that is filled from its first place on. Assumes nothing.
use mathlib.Core.Path.{◌≡◌, sym}
use mathlib.Core.List.{List, [], ◌∷◌, ◌++◌, append_assoc}
use Prim.Native.Nat.{ℕ, zero, suc, ◌+◌, ◌-◌, ◌<◌}
use native.Mathlib.Decide.{ℕ_discrete}
use native.Mathlib.Omega.{arith}
use native.Mathlib.Numerals.{add-one}
use lib.ListN.{length, length-append, replicate, get_or, set}
use lib.Seq.{set_at, get_or-set_same, get_or-set_other}
use Rattle.laws.specs.Idioms.{filled}

module _ {A : Type 0} (n : ℕ) (d : A) where
  pub fill_step : (l : List A) (i : ℕ) (x : A) → length l ≡ i → i < n → set (filled n d l) i x ≡ filled n d (l ++ (x ∷ []))
  fill_step l i x e h =
      let more : length (l ++ (x ∷ [])) ≡ suc i = length_snoc in
      let left : n - i ≡ suc (n - suc i) = omega arith in
      rw (e, left, set_at l d (replicate (n - suc i) d) x i e, more) (sym (append_assoc l (x ∷ []) (replicate (n - suc i) d)))
    where
      length_snoc : length (l ++ (x ∷ [])) ≡ suc i
      length_snoc = rw (length-append, e) (add-one i)

-- what each place has, and one place more
pub each_next : (xs : List ℕ) (g : ℕ → ℕ) {i y : ℕ} → i < length xs → ((j : ℕ) → j < i → get_or xs j 0 ≡ g j) → y ≡ g i → (j : ℕ) → j < i + 1 → get_or (set xs i y) j 0 ≡ g j
each_next xs g {i} {y} fits so e j h = go (ℕ_discrete j i)
  where
    go : Dec (j ≡ i) → get_or (set xs i y) j 0 ≡ g j
    go (yes same) = rw (same, get_or-set_same xs i y 0 fits) e
    go (no other) = rw (get_or-set_other xs i j y 0 other) (so j (omega (arith, other)))

-- what every place has, it has after a store of what has it too
pub set_keeps : (P : ℕ → Type 0) (xs : List ℕ) (i j : ℕ) {x : ℕ} → ((k : ℕ) → P (get_or xs k 0)) → P x → P (get_or (set xs i x) j 0)
set_keeps P [] i j so h = so j
set_keeps P (y ∷ xs) zero zero so h = h
set_keeps P (y ∷ xs) zero (suc j) so h = so (suc j)
set_keeps P (y ∷ xs) (suc i) zero so h = so 0
set_keeps P (y ∷ xs) (suc i) (suc j) so h = set_keeps P xs i j (λ k. so (suc k)) h
