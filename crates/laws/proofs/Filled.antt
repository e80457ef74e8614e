-- A list's members in n places, with the default in the others. Assumes nothing.
use mathlib.Core.Path.{◌≡◌, refl, ◌∙◌}
use mathlib.Core.List.{List, [], ◌∷◌, ◌++◌, map, map-map}
use Prim.Native.Nat.{ℕ, zero, suc, ◌+◌, ◌-◌, ◌≤◌, ◌<◌}
use native.Mathlib.Omega.{arith}
use native.Mathlib.Numerals.{add-one}
use lib.ListN.{length, length-append, length-map, length-replicate, take, get_or, set, replicate}
use lib.Seq.{length-take-le, take_at, take-suc, get_or-take}
use Rattle.laws.specs.Idioms.{entry, filled, from}
use Rattle.laws.proofs.Fill.{fill_step}
use Rattle.laws.proofs.Runs.{length-map-from}

-- one member more
pub filled_next : {A : Type 0} (n : ℕ) (d : A) (l : List A) (i : ℕ) → i < n → i < length l → set (filled n d (take i l)) i (get_or l i d) ≡ filled n d (take (i + 1) l)
filled_next n d l i h g = rw (fill_step n d (take i l) i (get_or l i d) (length-take-le i l (omega arith)) h, add-one i, take-suc l i d g)

-- in places that all have the default, and beyond them, stands the default
pub only_default : {A : Type 0} (n i : ℕ) (d : A) → get_or (replicate n d) i d ≡ d
only_default zero i d = refl
only_default (suc n) zero d = refl
only_default (suc n) (suc i) d = only_default n i d

-- beyond the end stands the default, whether it is there or not
pad_default : {A : Type 0} (l : List A) (n i : ℕ) (d : A) → get_or (l ++ replicate n d) i d ≡ get_or l i d
pad_default [] n i d = only_default n i d
pad_default (x ∷ xs) n zero d = refl
pad_default (x ∷ xs) n (suc i) d = pad_default xs n i d

pub filled-entry : {A : Type 0} (n : ℕ) (d : A) (l : List A) (k : ℕ) → 1 ≤ k → k ≤ n → entry d (filled n d (take n l)) k ≡ entry d l k
filled-entry n d l k low high =
    pad_default (take n l) (n - length (take n l)) (k - 1) d ∙ get_or-take n l (k - 1) d (omega arith)

pub filled-length : {A : Type 0} (n : ℕ) (d : A) (l : List A) → length l ≤ n → length (filled n d l) ≡ n
filled-length n d l h = rw (length-append, length-replicate) (omega arith)

-- what is filled in for m numbers in a row are the first m places
pub take-filled : {A : Type 0} (n : ℕ) (d : A) (f : ℕ → A) (a m : ℕ) → take m (filled n d (map f (from a m))) ≡ map f (from a m)
take-filled n d f a m = take_at (map f (from a m)) _ m (length-map-from f m a)

-- a function of every place
over_replicated : {A B : Type 0} (f : A → B) (d : A) (l : List A) (m : ℕ) → map f (l ++ replicate m d) ≡ map f l ++ replicate m (f d)
over_replicated f d [] zero = refl
over_replicated f d [] (suc m) = rw (over_replicated f d [] m)
over_replicated f d (x ∷ xs) m = rw (over_replicated f d xs m)

pub map-filled : {A B C : Type 0} (f : B → C) (g : A → B) (n : ℕ) (d : B) (l : List A) → map f (filled n d (map g l)) ≡ filled n (f d) (map (λ x. f (g x)) l)
map-filled f g n d l = over_replicated f d (map g l) (n - length (map g l)) ∙ rw (map-map f g l, length-map l g, length-map l (λ x. f (g x)))
