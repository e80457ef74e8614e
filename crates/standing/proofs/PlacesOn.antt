-- The places on a core, as a loop over the tasks meets them. Assumes nothing.
use Rattle.std.specs.Prelude.{◌==◌, count_by}
use Rattle.std.proofs.lemmas.List.Sums.{length-filter}
use Rattle.std.proofs.lemmas.List.Filters.{length-filter_more}
use mathlib.Core.Path.{◌≡◌, refl, ap, sym, ◌∙◌}
use mathlib.Core.Bool.{Bool, true, false, cond}
use mathlib.Core.List.{List, [], ◌∷◌, ◌++◌, append-nil, append_assoc}
use Prim.Native.Nat.{ℕ, zero, suc, ◌+◌, ◌-◌, ◌≤◌, ◌<◌}
use native.Mathlib.Nat.{le_refl, add-zero}
use native.Mathlib.Numerals.{add-one}
use native.Mathlib.Decide.{dec_le}
use native.Mathlib.Omega.{arith}
use lib.Dec.{eqb}
use lib.ListN.{length, length-append, get_or, get_or-append, take}
use lib.Seq.{get_or-append-add}
use borrow.Author.Tests.{eq-eqb}
use Rattle.laws.specs.Idioms.{from, below}
use Rattle.laws.proofs.Sums.{those-append}
use Rattle.laws.proofs.Runs.{below_next}
use Rattle.standing.specs.OnCore.{places_on}

one_more : (b : Bool) (x : ℕ) → length (cond b (x ∷ []) []) ≡ cond b 1 0
one_more true x = refl
one_more false x = refl

module _ (core : List ℕ) (q : ℕ) where
  pub places_none : places_on core q 0 ≡ []
  unfolding places_on from
  places_none = refl

  pub places_next : (n : ℕ) → places_on core q (n + 1) ≡ places_on core q n ++ cond (eqb (get_or core n 0) q) (n ∷ []) []
  unfolding places_on
  places_next n = rw (below_next n) (those-append (λ i. eqb (get_or core i 0) q) (below n) (n ∷ []))

  pub count_next : (n : ℕ) → length (places_on core q (n + 1)) ≡ length (places_on core q n) + cond (eqb (get_or core n 0) q) 1 0
  count_next n = rw (places_next n, length-append, one_more)

  -- as many as the members that are equal to q
  pub counted : (n : ℕ) → n ≤ length core → count_by (λ x. x == q) (take n core) ≡ length (places_on core q n)
  counted zero h = ap length (sym places_none)
  counted (suc n) h =
      rw (← add-one n) (sym (length-filter (λ x. x == q) _) ∙ length-filter_more (λ x. x == q) core n 0 (omega arith)
      ∙ rw (length-filter (λ x. x == q) (take n core), counted n (omega arith)) (sym (count_next n)))

  -- the first of the tasks have no more
  few-more : (i d : ℕ) → length (places_on core q i) ≤ length (places_on core q (i + d))
  few-more i zero = rw (add-zero i) (le_refl _)
  few-more i (suc d) =
      let e : i + suc d ≡ i + d + 1 = omega arith in
      rw e (omega (arith, count_next (i + d), few-more i d))

  pub places_few : (i n : ℕ) → i ≤ n → length (places_on core q i) ≤ length (places_on core q n)
  places_few i n h = let e : i + (n - i) ≡ n = omega arith in rw e at (few-more i (n - i))

  -- the first of the places are those of the first tasks; and a task's own place comes after those before it
  places_split : (i n : ℕ) → i ≤ n → (rest : List ℕ) × (places_on core q n ≡ places_on core q i ++ rest)
  places_split i zero h = let e : i ≡ 0 = omega arith in ([], rw (e, append-nil))
  places_split i (suc n) h = rw (← add-one n) (go (dec_le i n) (places_split i n))
    where
      go : Dec (i ≤ n) → (i ≤ n → (rest : List ℕ) × (places_on core q n ≡ places_on core q i ++ rest)) → (rest : List ℕ) × (places_on core q (n + 1) ≡ places_on core q i ++ rest)
      go (yes l) rec =
          let r = rec l in
          (r.0 ++ cond (eqb (get_or core n 0) q) (n ∷ []) [], rw (places_next n, r.1) (append_assoc (places_on core q i) r.0 _))
      go (no l) rec = let e : i ≡ n + 1 = omega (arith, l) in ([], rw (e, append-nil))

  pub places_first : (i n : ℕ) → i ≤ n → (j : ℕ) → j < length (places_on core q i) → get_or (places_on core q n) j 0 ≡ get_or (places_on core q i) j 0
  places_first i n h j here = let r = places_split i n h in rw r.1 (get_or-append (places_on core q i) r.0 0 j here)

  module _ (i n : ℕ) (h : i < n) (on : get_or core i 0 ≡ q) where
    own-next : places_on core q (i + 1) ≡ places_on core q i ++ (i ∷ [])
    own-next = places_next i ∙ rw (eq-eqb (get_or core i 0) q on)

    own-counts : length (places_on core q (i + 1)) ≡ length (places_on core q i) + 1
    own-counts = count_next i ∙ rw (eq-eqb (get_or core i 0) q on)

    pub own-within : length (places_on core q i) < length (places_on core q n)
    own-within = omega (arith, own-counts, places_few (i + 1) n (omega arith))

    pub own_place : get_or (places_on core q n) (length (places_on core q i)) 0 ≡ i
    own_place =
        places_first (i + 1) n (omega arith) (length (places_on core q i)) (omega (arith, own-counts))
        ∙ rw own-next (rw (add-zero (length (places_on core q i))) at (get_or-append-add (places_on core q i) (i ∷ []) 0 0))
