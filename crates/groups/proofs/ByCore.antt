-- The places of the tasks, core after core: they are no more than the tasks. Assumes nothing.
use mathlib.Core.Path.{◌≡◌, refl, ap}
use mathlib.Core.List.{List, [], ◌++◌, append-nil, append_assoc}
use Prim.Native.Nat.{ℕ, zero, suc, ◌+◌, ◌≤◌, ◌<◌}
use native.Mathlib.Numerals.{add-one}
use native.Mathlib.Decide.{dec_le, ℕ_discrete}
use native.Mathlib.Omega.{arith}
use lib.ListN.{length, length-append, get_or}
use borrow.Author.Tests.{eq-eqb, ne_eqb}
use Rattle.standing.specs.OnCore.{places_on}
use Rattle.standing.proofs.PlacesOn.{places_none, count_next}

module _ (core : List ℕ) where
  -- those of cores 1 to q
  unfoldable pub by_core : ℕ → ℕ → List ℕ
  by_core n zero = []
  by_core n (suc q) = by_core n q ++ places_on core (suc q) n

  pub by_core-none : (n : ℕ) → by_core n 0 ≡ []
  unfolding by_core
  by_core-none n = refl

  pub by_core-next : (n q : ℕ) → by_core n (q + 1) ≡ by_core n q ++ places_on core (q + 1) n
  unfolding by_core
  by_core-next n q = rw (add-one q)

  pub by_core-long : (n q : ℕ) → length (by_core n (q + 1)) ≡ length (by_core n q) + length (places_on core (q + 1) n)
  by_core-long n q = rw (by_core-next n q, length-append)

  -- the cores up to q, and the others
  pub by_core_split : (n p q : ℕ) → p ≤ q → (rest : List ℕ) × (by_core n q ≡ by_core n p ++ rest)
  unfolding by_core
  by_core_split n zero zero h = ([], refl)
  by_core_split n (suc p) zero h = absurd (omega arith)
  by_core_split n p (suc q) h = go (dec_le p q) (by_core_split n p q)
    where
      go : Dec (p ≤ q) → (p ≤ q → (rest : List ℕ) × (by_core n q ≡ by_core n p ++ rest)) → (rest : List ℕ) × (by_core n (suc q) ≡ by_core n p ++ rest)
      go (yes l) rec =
          let r = rec l in
          (r.0 ++ places_on core (suc q) n, rw r.1 (append_assoc (by_core n p) r.0 (places_on core (suc q) n)))
      go (no l) rec = let e : p ≡ suc q = omega (arith, l) in ([], rw (e, append-nil))

  -- one task more is one place more, at its core
  record OneMore (n q : ℕ) : Type 0 where
    most : length (by_core (n + 1) q) ≤ length (by_core n q) + 1
    none : q < get_or core n 0 → length (by_core (n + 1) q) ≡ length (by_core n q)

  one_more : (n q : ℕ) → OneMore n q
  one_more n zero = record { most = rw (by_core-none n, by_core-none (n + 1)) (omega arith); none = λ h. rw (by_core-none n, by_core-none (n + 1)) }
  one_more n (suc q) = rw (← add-one q) (go (one_more n q) (ℕ_discrete (get_or core n 0) (q + 1)))
    where
      go : OneMore n q → Dec (get_or core n 0 ≡ q + 1) → OneMore n (q + 1)
      go rec (yes is) =
          let one = rw (eq-eqb (get_or core n 0) (q + 1) is) at (count_next core (q + 1) n) in
          record {
            most = omega (arith, by_core-long n q, by_core-long (n + 1) q, one, rec.none (omega (arith, is)));
            none = λ h. absurd (omega (arith, is));
          }
      go rec (no other) =
          let same = rw (ne_eqb (get_or core n 0) (q + 1) other) at (count_next core (q + 1) n) in
          record {
            most = omega (arith, by_core-long n q, by_core-long (n + 1) q, same, rec.most);
            none = λ h. omega (arith, by_core-long n q, by_core-long (n + 1) q, same, rec.none (omega arith));
          }

  none_yet : (q : ℕ) → length (by_core 0 q) ≡ 0
  none_yet zero = ap length (by_core-none 0)
  none_yet (suc q) = rw (← add-one q) (omega (arith, by_core-long 0 q, none_yet q, ap length (places_none core (q + 1))))

  pub by_core-few : (n q : ℕ) → length (by_core n q) ≤ n
  by_core-few zero q = omega (arith, none_yet q)
  by_core-few (suc n) q = rw (← add-one n) (omega (arith, (one_more n q).most, by_core-few n q))
