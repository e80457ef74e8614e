-- The places of every core's tasks, as a loop over the cores writes them. Assumes nothing.
use mathlib.Core.Path.{◌≡◌, refl, sym, ap, ◌∙◌}
use mathlib.Core.List.{List, ◌++◌, append_assoc}
use Prim.Native.Nat.{ℕ, ◌+◌, ◌≤◌, ◌<◌}
use native.Mathlib.Decide.{ℕ_discrete}
use native.Mathlib.Omega.{arith}
use lib.ListN.{length, length-append, length-set, replicate, take, get_or, set, get_or-append}
use lib.Seq.{get_or-set_same, get_or-set_other, get_or-take, get_or-append-add}
use Rattle.standing.specs.OnCore.{places_on}
use Rattle.groups.specs.Grouped.{PlacesBelow, Joined, OrderedAt, Ordered}
use Rattle.groups.proofs.ByCore.{by_core, by_core-none, by_core-next, by_core-long, by_core_split, by_core-few}

-- the cores up to q have had their turn
pub record InTurn (core : List ℕ) (n q m : ℕ) (begins order : List ℕ) : Type 0 where
  pub count : m ≡ length (by_core core n q)
  pub is : take m order ≡ by_core core n q
  pub low : PlacesBelow n order
  pub each : (j : ℕ) → j ≤ q → get_or begins j 0 ≡ length (by_core core n j)
  pub long : length begins ≡ 9

module _ (core : List ℕ) (n : ℕ) where
  pub turn_none : {order : List ℕ} → PlacesBelow n order → InTurn core n 0 0 (replicate 9 0) order
  turn_none low =
      record {
        count = rw (by_core-none core n);
        is = rw (by_core-none core n);
        low = low;
        each = λ j h. let e : j ≡ 0 = omega arith in rw (e, by_core-none core n);
        long = refl;
      }

  -- there is room for the next core's
  pub turn_room : {q m : ℕ} {begins order : List ℕ} → InTurn core n q m begins order → m + length (places_on core (q + 1) n) ≤ n
  turn_room {q} so = omega (arith, so.count, by_core-long core n q, by_core-few core n (q + 1))

  pub turn_next : {q m k : ℕ} {begins order more : List ℕ} → q < 8 → InTurn core n q m begins order → Joined n (places_on core (q + 1) n) m k order more
      → InTurn core n (q + 1) k (set begins (q + 1) k) more
  turn_next {q} {m} {k} {begins} few so new =
      record {
        count = long;
        is = rw (by_core-next core n q, ← so.is) new.is;
        low = new.low;
        each = λ j h. go j h (ℕ_discrete j (q + 1));
        long = rw length-set so.long;
      }
    where
      long : k ≡ length (by_core core n (q + 1))
      long = omega (arith, new.count, so.count, by_core-long core n q)

      go : (j : ℕ) → j ≤ q + 1 → Dec (j ≡ q + 1) → get_or (set begins (q + 1) k) j 0 ≡ length (by_core core n j)
      go j h (yes same) = rw (same, get_or-set_same begins (q + 1) k 0 (omega (arith, so.long))) long
      go j h (no other) = rw (get_or-set_other begins (q + 1) j k 0 other) (so.each j (omega (arith, other)))

  module _ {cores m : ℕ} {begins order : List ℕ} (so : InTurn core n cores m begins order) where
    ordered_at : (q : ℕ) → q < cores → OrderedAt n core begins order q
    ordered_at q here =
        let a : get_or begins q 0 ≡ length (by_core core n q) = so.each q (omega arith) in
        let e : get_or begins (q + 1) 0 ≡ length (by_core core n (q + 1)) = so.each (q + 1) (omega arith) in
        record { next = omega (arith, by_core-long core n q); few = omega (arith, by_core-few core n (q + 1)); each = λ j h. rw a (go j h) }
      where
        go : (j : ℕ) → j < length (places_on core (q + 1) n) → get_or order (length (by_core core n q) + j) 0 ≡ get_or (places_on core (q + 1) n) j 0
        go j h =
            let r = by_core_split core n (q + 1) cores (omega arith) in
            let all : by_core core n cores ≡ by_core core n q ++ (places_on core (q + 1) n ++ r.0) = r.1 ∙ rw (by_core-next core n q, append_assoc) in
            let long : m ≡ length (by_core core n q) + (length (places_on core (q + 1) n) + length r.0) = so.count ∙ ap length all ∙ simp length-append in
            sym (get_or-take m order (length (by_core core n q) + j) 0 (omega arith))
            ∙ ap (λ (l : List ℕ). get_or l (length (by_core core n q) + j) 0) (so.is ∙ all)
            ∙ get_or-append-add (by_core core n q) (places_on core (q + 1) n ++ r.0) j 0
            ∙ get_or-append (places_on core (q + 1) n) r.0 0 j h

    pub turn_done : Ordered cores n core begins order
    turn_done = record { long = so.long; low = so.low; each = ordered_at }
