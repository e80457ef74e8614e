-- Texts of lines, and the last letters of a text, which no number after them changes. Assumes nothing.
use mathlib.Core.Path.{◌≡◌, refl, ap, ◌∙◌}
use mathlib.Core.Bool.{Bool, true, false, cond}
use mathlib.Core.List.{List, [], ◌∷◌, ◌++◌, map, append_assoc, append-nil}
use Prim.Native.Nat.{ℕ, zero, suc, ◌+◌, ◌/◌, ◌%◌, ◌<◌}
use native.Mathlib.Omega.{arith}
use lib.Dec.{ltb, eqb}
use borrow.Author.Tests.{lt-ltb, ltb-true}
use Rattle.laws.specs.Idioms.{text, joined}
use Rattle.laws.specs.Decimal.{digits, decimal}
use Rattle.rules.specs.Listing.{line}

-- ---- a text whose last line has its end

abbrev pub Lined : List ℕ → Type 0
Lined l = (before : List ℕ) × (l ≡ before ++ text "\n")

lined_after : (a : List ℕ) {l : List ℕ} → Lined l → Lined (a ++ l)
lined_after a (before, e) = (a ++ before, rw e (simp append_assoc))

pub lined_line : (words : List (List ℕ)) → Lined (line words)
lined_line [] = ([], refl)
lined_line (w ∷ []) = (w, refl)
lined_line (w ∷ v ∷ words) = lined_after (w ++ text " ") (lined_line (v ∷ words))

pub lined_lines : (f : ℕ → List ℕ) → ((k : ℕ) → Lined (f k)) → (ks : List ℕ) {l : List ℕ} → Lined l → Lined (l ++ joined (map f ks))
lined_lines f each [] lined = rw append-nil lined
lined_lines f each (k ∷ ks) {l} lined = rw (← append_assoc l (f k)) (lined_lines f each ks (lined_after l (each k)))

-- ---- the last letters of a text: of bytes from 58 up, which no digit is

abbrev letters : ℕ × ℕ → List ℕ → ℕ × ℕ
letters w [] = w
letters w (b ∷ l) = letters (cond (ltb b 58) w (w.1, b)) l

letters-append : (l r : List ℕ) (w : ℕ × ℕ) → letters w (l ++ r) ≡ letters (letters w l) r
letters-append [] r w = refl
letters-append (b ∷ l) r w = letters-append l r (cond (ltb b 58) w (w.1, b))

letters_digit : (d : ℕ) → d < 10 → (after : List ℕ) (w : ℕ × ℕ) → letters w ((48 + d) ∷ after) ≡ letters w after
letters_digit d h after w = rw (lt-ltb (48 + d) 58 (omega arith))

letters-digits : (more n : ℕ) (after : List ℕ) (w : ℕ × ℕ) → letters w (digits more n after) ≡ letters w after
letters-digits zero n after w = refl
letters-digits (suc more) n after w = go (ltb n 10) refl (letters-digits more (n / 10) ((48 + n % 10) ∷ after) w)
  where
    go : (b : Bool) → ltb n 10 ≡ b → letters w (digits more (n / 10) ((48 + n % 10) ∷ after)) ≡ letters w ((48 + n % 10) ∷ after)
        → letters w (digits (suc more) n after) ≡ letters w after
    go true e rest = rw (e, digits) (letters_digit n (ltb-true n 10 e) after w)
    go false e rest = rw (e, digits) (rest ∙ letters_digit (n % 10) (omega arith) after w)

letters-number : (n : ℕ) (after : List ℕ) (w : ℕ × ℕ) → letters w (decimal n ++ after) ≡ letters w after
unfolding decimal
letters-number n after w = letters-append (decimal n) after w ∙ ap (λ (v : ℕ × ℕ). letters v after) (letters-digits (suc n) n [] w)

-- what a text tells by its last letter but one: the l of `hold`, the s of `miss` or the e of `refused`
abbrev pub told : List ℕ → ℕ
told l = let x = (letters (0, 0) l).0 in cond (eqb x 108) 0 (cond (eqb x 115) 1 2)

module _ (l : List ℕ) where
  pub told-hold : told (l ++ text "all hold" ++ text "\n") ≡ 0
  told-hold = rw (append_assoc l (text "all hold") (text "\n"), letters-append l (text "all hold\n"))

  pub told-miss : (k : ℕ) → told (l ++ (text "first miss " ++ decimal k) ++ text "\n") ≡ 1
  told-miss k =
      let end = text "first miss " ++ decimal k in
      rw (append_assoc l end (text "\n"), letters-append l (end ++ text "\n") (0, 0), letters-number k (text "\n") (115, 115))

pub told-refused : (n : ℕ) → told (text "refused " ++ decimal n ++ text "\n") ≡ 2
told-refused n = rw (letters-number n (text "\n") (101, 100))
