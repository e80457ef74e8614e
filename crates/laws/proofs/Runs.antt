-- Lists: one number more of a row mapped, runs of stores one after the other, and lists of equal width joined. Assumes nothing.
use mathlib.Core.Path.{◌≡◌, refl, sym, ap, ◌∙◌}
use mathlib.Core.List.{List, [], ◌∷◌, ◌++◌, map, append-nil, append_assoc}
use Prim.Native.Nat.{ℕ, zero, suc, ◌+◌, ◌*◌, ◌-◌, ◌<◌, ◌≤◌}
use native.Mathlib.Omega.{arith}
use native.Mathlib.Nat.{zero-add, sub-zero}
use native.Mathlib.Numerals.{add-one}
use lib.ListN.{length, length-append, length-map, length-replicate, set, take, drop, get_or, replicate}
use lib.Seq.{sets, sets-eq, take-suc, length-take-le}
use Rattle.laws.specs.Idioms.{from, up_to, below, joined, filled}
use Rattle.laws.proofs.Sums.{up_to-next}

pub length_from : (a n : ℕ) → length (from a n) ≡ n
unfolding from
length_from a zero = refl
length_from a (suc n) = ap suc (length_from (a + 1) n)

pub below_next : (n : ℕ) → below (n + 1) ≡ below n ++ (n ∷ [])
unfolding from
below_next zero = refl
below_next (suc n) = rw (add-one (suc n)) (ap {B = List ℕ} (λ l. 0 ∷ l) (rw (add-one n) at (up_to-next n)))

module _ {A B : Type 0} (f : A → B) where
  pub map_snoc : (xs : List A) (x : A) → map f (xs ++ (x ∷ [])) ≡ map f xs ++ (f x ∷ [])
  map_snoc [] x = refl
  map_snoc (y ∷ xs) x = ap {B = List B} (λ l. f y ∷ l) (map_snoc xs x)

-- the length of an array of structs, which the logic has as that of a list mapped: for `search (needs, unmapped)`
pub unmapped : (A B : Type 0) (f : A → B) (l : List A) (n : ℕ) → length (map f l) ≡ n → length l ≡ n
unmapped A B f l n p = sym (length-map l f) ∙ p

module _ {B : Type 0} (f : ℕ → B) (n : ℕ) where
  pub map-below-next : map f (below (n + 1)) ≡ map f (below n) ++ (f n ∷ [])
  map-below-next = rw below_next (map_snoc f (below n) n)

  pub map-up_to-next : map f (up_to (n + 1)) ≡ map f (up_to n) ++ (f (n + 1) ∷ [])
  map-up_to-next = rw up_to-next (map_snoc f (up_to n) (n + 1))

  pub length-map-from : (a : ℕ) → length (map f (from a n)) ≡ n
  length-map-from a = length-map (from a n) f ∙ length_from a n

module _ {A : Type 0} where
  -- a run of stores after another
  sets-append : (vs ws l : List A) (i : ℕ) → sets (sets l i vs) (i + length vs) ws ≡ sets l i (vs ++ ws)
  sets-append [] ws l i = let e : i + 0 ≡ i = omega arith in rw e
  sets-append (v ∷ vs) ws l i =
      let e : i + suc (length vs) ≡ suc i + length vs = omega arith in
      rw e (sets-append vs ws (set l i v) (suc i))

  pub sets-after : (vs ws l : List A) (i j : ℕ) → j ≡ i + length vs → sets (sets l i vs) j ws ≡ sets l i (vs ++ ws)
  sets-after vs ws l i j e = rw e (sets-append vs ws l i)

  pub sets-next : (l vs : List A) (i : ℕ) (x : A) → length vs ≡ i → set (sets l 0 vs) i x ≡ sets l 0 (vs ++ (x ∷ []))
  sets-next l vs i x e = sets-after vs (x ∷ []) l 0 i (omega arith)

  drop-replicate : (k n : ℕ) (d : A) → drop k (replicate n d) ≡ replicate (n - k) d
  drop-replicate zero n d = rw sub-zero
  drop-replicate (suc k) zero d = let e : 0 - suc k ≡ 0 = omega arith in rw e
  drop-replicate (suc k) (suc n) d = let e : suc n - suc k ≡ n - k = omega arith in rw e (drop-replicate k n d)

  -- a run of stores from the first place on; and in places that all had d
  pub sets-front : (vs l : List A) → length vs ≤ length l → sets l 0 vs ≡ vs ++ drop (length vs) l
  sets-front vs l h = sets-eq vs l 0 (omega arith) ∙ rw zero-add

  pub sets-filled : (n : ℕ) (d : A) (vs : List A) → length vs ≤ n → sets (replicate n d) 0 vs ≡ filled n d vs
  sets-filled n d vs h = sets-front vs (replicate n d) (rw length-replicate h) ∙ rw drop-replicate

  pub sets-full : (n : ℕ) (d : A) (vs : List A) → length vs ≡ n → sets (replicate n d) 0 vs ≡ vs
  sets-full n d vs e = let none : n - length vs ≡ 0 = omega arith in sets-filled n d vs (omega arith) ∙ rw (none, append-nil)

joined_snoc : (ls : List (List ℕ)) (l : List ℕ) → joined (ls ++ (l ∷ [])) ≡ joined ls ++ l
joined_snoc [] l = append-nil l
joined_snoc (k ∷ ls) l = rw (joined_snoc ls l, append_assoc)

-- lists of equal width: how long they are joined, and one more stored after the others
module _ {A : Type 0} (f : A → List ℕ) (width : ℕ) (each : (x : A) → length (f x) ≡ width) where
  pub joined_length : (l : List A) → length (joined (map f l)) ≡ width * length l
  joined_length [] = omega arith
  joined_length (x ∷ l) = rw length-append (omega (arith, each x, joined_length l))

  pub joined-take : (l : List A) (n : ℕ) → n ≤ length l → length (joined (map f (take n l))) ≡ width * n
  joined-take l n h = joined_length (take n l) ∙ ap (λ m. width * m) (length-take-le n l h)

  pub store_next : (out : List ℕ) (at : ℕ) (l : List A) (i : ℕ) (d : A) → i < length l
      → sets (sets out at (joined (map f (take i l)))) (at + width * i) (f (get_or l i d)) ≡ sets out at (joined (map f (take (i + 1) l)))
  store_next out at l i d h =
      rw (add-one, take-suc l i d h, map_snoc f (take i l) (get_or l i d), joined_snoc (map f (take i l)) (f (get_or l i d)))
      (sets-after (joined (map f (take i l))) (f (get_or l i d)) out at (at + width * i) (omega (arith, joined-take l i (omega arith))))
