-- Rows: a list cut into parts of one size. Each row is the code of a value; what is written row by row is read back row by row,
-- and what is read row by row is written back. Assumes nothing.
use mathlib.Core.Path.{◌≡◌, refl, ap₂}
use mathlib.Core.List.{List, [], ◌∷◌, ◌++◌, map, append_assoc}
use Prim.Native.Nat.{ℕ, zero, suc, ◌+◌, ◌*◌, ◌≤◌, ◌<◌}
use native.Mathlib.Omega.{arith}
use lib.ListN.{length, take, drop, get_or, length-drop}
use lib.Seq.{length-take-le, take-add, take_at, drop_at, drop-drop}
use Rattle.laws.specs.Idioms.{from, joined, part}
use Rattle.laws.specs.Bytes.{Bytes}
use Rattle.laws.proofs.ByteLists.{bytes_take, bytes_drop}

-- n rows of w
unfoldable rows : ℕ → ℕ → List ℕ → List (List ℕ)
rows w zero l = []
rows w (suc n) l = take w l ∷ rows w n (drop w l)

rows-joined : (w n : ℕ) (l : List ℕ) → joined (rows w n l) ≡ take (w * n) l
unfolding rows
rows-joined w zero l = let e : w * 0 ≡ 0 = omega arith in rw e
rows-joined w (suc n) l =
    let e : w * suc n ≡ w + w * n = omega arith in
    rw (e, take-add w (w * n) l, rows-joined w n (drop w l))

-- values and their codes: every code is of one size, and every list of so many bytes is a code
pub record Code {A : Type 0} (w : ℕ) (enc : A → List ℕ) (dec : List ℕ → A) : Type 0 where
  pub sized : (x : A) → length (enc x) ≡ w
  pub again : (l : List ℕ) → Bytes l → length l ≡ w → enc (dec l) ≡ l

module _ {A : Type 0} {w : ℕ} {enc : A → List ℕ} {dec : List ℕ → A} (code : Code w enc dec) where
  written_rows : (l : List A) (q : List ℕ) → rows w (length l) (joined (map enc l) ++ q) ≡ map enc l
  unfolding rows
  written_rows [] q = refl
  written_rows (x ∷ l) q =
      let rest = joined (map enc l) ++ q in
      rw (append_assoc, take_at (enc x) rest w (code.sized x), drop_at (enc x) rest w (code.sized x), written_rows l q)

  rows-again : (n : ℕ) {l : List ℕ} → Bytes l → w * n ≤ length l → map enc (map dec (rows w n l)) ≡ rows w n l
  unfolding rows
  rows-again zero b h = refl
  rows-again (suc n) {l} b h =
      let e : w * suc n ≡ w + w * n = omega arith in
      ap₂ {C = List (List ℕ)} (λ (x : List ℕ) (xs : List (List ℕ)). x ∷ xs)
      (code.again (take w l) (bytes_take w b) (length-take-le w l (omega arith)))
      (rows-again n (bytes_drop w b) (rw (length-drop w l) (omega arith)))

  values_again : (d : A) (n : ℕ) (l : List A) → ((k : ℕ) → k < n → dec (enc (get_or l k d)) ≡ get_or l k d) → map dec (map enc (take n l)) ≡ take n l
  values_again d zero l h = refl
  values_again d (suc n) [] h = refl
  values_again d (suc n) (x ∷ l) h =
      ap₂ {C = List A} (λ (y : A) (ys : List A). y ∷ ys) (h 0 (omega arith)) (values_again d n l (λ k less. h (suc k) (omega arith)))

-- rows at places that start somewhere and go up by the rows' size
pub record Ladder (w start lowest : ℕ) (at : ℕ → ℕ) : Type 0 where
  pub starts : at lowest ≡ start
  pub steps : (k : ℕ) → lowest ≤ k → at (k + 1) ≡ at k + w

module _ {A : Type 0} {w start lowest : ℕ} {enc : A → List ℕ} {dec : List ℕ → A} {at : ℕ → ℕ} (code : Code w enc dec) (s : List ℕ) (ladder : Ladder w start lowest at) where
  rows_at : (k n : ℕ) → lowest ≤ k → map (λ j. dec (part s (at j) w)) (from k n) ≡ map dec (rows w n (drop (at k) s))
  unfolding rows from
  rows_at k zero h = refl
  rows_at k (suc n) h = rw (drop-drop w (at k) s, ← ladder.steps k h, rows_at (k + 1) n (omega arith))

  rows-from-start : (n : ℕ) → map (λ j. dec (part s (at j) w)) (from lowest n) ≡ map dec (rows w n (drop start s))
  rows-from-start n = rw (← ladder.starts) (rows_at lowest n (omega arith))

  -- what was read row by row is written back
  pub written_back : (n : ℕ) → Bytes s → start + w * n ≤ length s
      → joined (map enc (map (λ j. dec (part s (at j) w)) (from lowest n))) ≡ part s start (w * n)
  written_back n b h =
      rw (rows-from-start n, rows-again code n (bytes_drop start b) (rw (length-drop start s) (omega arith)))
      (rows-joined w n (drop start s))

  -- what was written row by row, the first n values of a list, is read back where each of them is known by its code
  pub read_back : (d : A) (n : ℕ) (l : List A) (q : List ℕ) → n ≤ length l → drop start s ≡ joined (map enc (take n l)) ++ q
      → ((k : ℕ) → k < n → dec (enc (get_or l k d)) ≡ get_or l k d) → map (λ j. dec (part s (at j) w)) (from lowest n) ≡ take n l
  read_back d n l q fits e known =
      let read : rows w n (joined (map enc (take n l)) ++ q) ≡ map enc (take n l) =
      rw (length-take-le n l fits) at (written_rows code (take n l) q) in
      rw (rows-from-start n, e, read) (values_again code d n l known)
