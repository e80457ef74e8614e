-- The digits of a number from the last to the first, as code makes them; the bound on the recursion does not matter. Assumes nothing.
use mathlib.Core.Path.{◌≡◌, refl, sym, ◌∙◌, ap}
use mathlib.Core.Bool.{Bool, true, false}
use mathlib.Core.List.{List, ◌∷◌}
use Prim.Native.Nat.{ℕ, zero, suc, ◌+◌, ◌-◌, ◌*◌, ◌/◌, ◌%◌, ◌^◌, ◌≤◌, ◌<◌}
use native.Mathlib.Omega.{arith}
use native.Mathlib.Nat.{pow-suc}
use lib.Dec.{ltb}
use lib.ListN.{length, take, drop, set, length-drop, drop_of_length-le}
use lib.Seq.{take_all, set_split, drop_at, length-take-le}
use borrow.Author.Tests.{lt-ltb, le-ltb, ltb-true, ltb-false}
use Rattle.laws.specs.Decimal.{digits, decimal}
use Rattle.digits.specs.Spelled.{Spelled}

module _ (more n : ℕ) (after : List ℕ) where
  last_digit : n < 10 → digits (suc more) n after ≡ (48 + n) ∷ after
  last_digit h = rw (lt-ltb n 10 h, digits)

  next_digit : 10 ≤ n → digits (suc more) n after ≡ digits more (n / 10) ((48 + n % 10) ∷ after)
  next_digit h = rw (le-ltb n 10 h, digits)

-- any two bounds above n give the same digits
same_digits : (j k n : ℕ) (after : List ℕ) → n < j → n < k → digits j n after ≡ digits k n after
same_digits zero k n after p q = absurd (omega arith)
same_digits (suc j) zero n after p q = absurd (omega arith)
same_digits (suc j) (suc k) n after p q =
    go (ltb n 10) refl (λ h. same_digits j k (n / 10) ((48 + n % 10) ∷ after) (omega arith) (omega arith))
  where
    go : (b : Bool) → ltb n 10 ≡ b
        → (10 ≤ n → digits j (n / 10) ((48 + n % 10) ∷ after) ≡ digits k (n / 10) ((48 + n % 10) ∷ after))
        → digits (suc j) n after ≡ digits (suc k) n after
    go true e rest = let h = ltb-true n 10 e in last_digit j n after h ∙ sym (last_digit k n after h)
    go false e rest = let h = ltb-false n 10 e in next_digit j n after h ∙ rest h ∙ sym (next_digit k n after h)

-- a byte stored in front of the part that is filled
drop-set : (d : List ℕ) (i x : ℕ) → i < length d → drop i (set d i x) ≡ x ∷ drop (suc i) d
drop-set d i x h = ap (drop i) (set_split d i x h) ∙ drop_at (take i d) (x ∷ drop (suc i) d) i (length-take-le i d (omega arith))

-- the digits of what is left of a number, before those that stand from place i + 1 on
unfoldable pub spelled : ℕ → List ℕ → ℕ → List ℕ
spelled m d i = digits (suc m) m (drop (suc i) d)

pub spell_none : (n : ℕ) (d : List ℕ) (i : ℕ) → length d ≡ suc i → decimal n ≡ spelled n d i
unfolding decimal spelled
spell_none n d i e = ap (digits (suc n) n) (sym (drop_of_length-le d {i = suc i} (omega arith)))

module _ (d : List ℕ) (m i : ℕ) (inside : i < length d) where
  pub spell_next : 10 ≤ m → 1 ≤ i → spelled m d i ≡ spelled (m / 10) (set d i (48 + m % 10)) (i - 1)
  unfolding spelled
  spell_next h p =
      let e : suc (i - 1) ≡ i = omega arith in
      next_digit m m (drop (suc i) d) h
      ∙ same_digits m (suc (m / 10)) (m / 10) ((48 + m % 10) ∷ drop (suc i) d) (omega arith) (omega arith)
      ∙ ap (digits (suc (m / 10)) (m / 10)) (sym (rw e (drop-set d i (48 + m % 10) inside)))

  pub spell_last : m < 10 → spelled m d i ≡ drop i (set d i (48 + m))
  unfolding spelled
  spell_last h = last_digit m m (drop (suc i) d) h ∙ sym (drop-set d i (48 + m) inside)

-- a number of two digits or more has a place before its last, and what is left of it has room there
pub place_before : (m i : ℕ) → 10 ≤ m → m < 10 ^ suc i → 1 ≤ i
place_before m zero h p = absurd (omega arith)
place_before m (suc i) h p = omega arith

pub digit_fewer : (m i : ℕ) → 1 ≤ i → m < 10 ^ suc i → m / 10 < 10 ^ suc (i - 1)
digit_fewer m i h p =
    let e : suc (i - 1) ≡ i = omega arith in
    let q : m < 10 ^ i * 10 = rw (← pow-suc 10 i) p in
    rw e (omega arith)

-- the part of the twenty places that holds the digits
module _ (n i : ℕ) (d : List ℕ) (s : Spelled n i d) (full : length d ≡ 20) where
  pub spelled-part : take (20 - i) (drop i d) ≡ decimal n
  spelled-part = take_all (20 - i) (drop i d) (rw length-drop (omega arith)) ∙ s.digits

  pub spelled-short : length (decimal n) ≤ 20
  spelled-short = rw (← s.digits, length-drop) (omega arith)
