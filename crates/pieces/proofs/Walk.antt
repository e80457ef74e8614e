-- The pieces of a text as a loop meets them: i bytes have been read, those from `start` on are of the piece at hand, and `left` pieces stand before the
-- one that is asked for. Assumes nothing.
use mathlib.Core.Path.{◌≡◌, refl, ◌∙◌}
use mathlib.Core.Bool.{Bool, true, false, cond}
use mathlib.Core.List.{List, [], ◌∷◌, ◌++◌}
use Prim.Native.Nat.{ℕ, suc, ◌+◌, ◌-◌, ◌≤◌, ◌<◌}
use native.Mathlib.Omega.{arith}
use lib.Dec.{eqb}
use lib.ListN.{length, drop, get_or, length-drop}
use lib.Seq.{take-suc, drop-cons, drop-length, get_or-drop}
use borrow.Author.Tests.{eq-eqb, ne_eqb}
use Rattle.laws.specs.Idioms.{part}
use Rattle.pieces.specs.Pieces.{pieces_from, text_at, piece_of}

module _ (mark : ℕ) where
  -- there is always a piece at hand, so the first of all is the one before it
  here : (x : List ℕ) (begun s : List ℕ) → text_at (x ∷ pieces_from mark begun s) 0 ≡ x
  here x begun [] = refl
  here x begun (b ∷ s) = go (eqb b mark) (here x (begun ++ b ∷ []) s)
    where
      go : (e : Bool) → text_at (x ∷ pieces_from mark (begun ++ b ∷ []) s) 0 ≡ x
          → text_at (x ∷ cond e (begun ∷ pieces_from mark [] s) (pieces_from mark (begun ++ b ∷ []) s)) 0 ≡ x
      go true rest = refl
      go false rest = rest

  next : (x : List ℕ) (begun s : List ℕ) (k : ℕ) → text_at (x ∷ pieces_from mark begun s) (suc k) ≡ text_at (pieces_from mark begun s) k
  next x begun [] k = refl
  next x begun (b ∷ s) k = go (eqb b mark) (next x (begun ++ b ∷ []) s k)
    where
      go : (e : Bool) → text_at (x ∷ pieces_from mark (begun ++ b ∷ []) s) (suc k) ≡ text_at (pieces_from mark (begun ++ b ∷ []) s) k
          → text_at (x ∷ cond e (begun ∷ pieces_from mark [] s) (pieces_from mark (begun ++ b ∷ []) s)) (suc k)
          ≡ text_at (cond e (begun ∷ pieces_from mark [] s) (pieces_from mark (begun ++ b ∷ []) s)) k
      go true rest = refl
      go false rest = rest

  module _ (s : List ℕ) (k : ℕ) where
    -- what is left to be looked at
    abbrev pub Left : ℕ → ℕ → ℕ → Type 0
    Left left start i = piece_of mark s k ≡ text_at (pieces_from mark (part s start (i - start)) (drop i s)) left

    pub left-all : Left k 0 0
    unfolding piece_of
    left-all = refl

    module _ (left start i : ℕ) (inv : Left left start i) where
      pub left_end : i ≡ length s → piece_of mark s k ≡ part s start (length s - start)
      left_end end =
          let none : drop i s ≡ [] = rw end (drop-length s) in
          inv ∙ rw (none, end)

      module _ (inside : i < length s) where
        -- one byte more
        read : (begun : List ℕ) (e : Bool) → eqb (get_or s i 0) mark ≡ e
            → pieces_from mark begun (drop i s) ≡ cond e (begun ∷ pieces_from mark [] (drop (i + 1) s)) (pieces_from mark (begun ++ get_or s i 0 ∷ []) (drop (i + 1) s))
        read begun e is =
            let one : suc i ≡ i + 1 = omega arith in
            let after : drop i s ≡ get_or s i 0 ∷ drop (i + 1) s = rw one at (drop-cons s i 0 inside) in
            rw (after, is)

        pub left-found : get_or s i 0 ≡ mark → left ≡ 0 → piece_of mark s k ≡ part s start (i - start)
        left-found e none = inv ∙ rw (none, read _ true (eq-eqb (get_or s i 0) mark e)) (here (part s start (i - start)) [] (drop (i + 1) s))

        pub left_mark : get_or s i 0 ≡ mark → 1 ≤ left → Left (left - 1) (i + 1) (i + 1)
        left_mark e some =
            let more : left ≡ suc (left - 1) = omega arith in
            let fresh : i + 1 - (i + 1) ≡ 0 = omega arith in
            inv ∙ rw (read _ true (eq-eqb (get_or s i 0) mark e)) (rw (← more) at (next (part s start (i - start)) [] (drop (i + 1) s) (left - 1)) ∙ rw fresh)

        pub left_byte : start ≤ i → (get_or s i 0 ≡ mark → ⊥) → Left left start (i + 1)
        left_byte ordered other =
            let longer : i + 1 - start ≡ suc (i - start) = omega arith in
            let at : start + (i - start) ≡ i = omega arith in
            inv ∙ rw (read _ false (ne_eqb (get_or s i 0) mark other), longer, take-suc (drop start s) (i - start) 0 (omega (arith, length-drop start s)), get_or-drop start s (i - start) 0, at)
