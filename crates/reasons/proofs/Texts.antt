-- A number's text, and how long any of them is. Assumes nothing.
use mathlib.Core.Path.{◌≡◌, refl}
use mathlib.Core.Bool.{Bool, true, false, cond}
use mathlib.Core.List.{List, [], ◌∷◌}
use Prim.Native.Nat.{ℕ, zero, suc}
use lib.Dec.{eqb}
use lib.ListN.{length}
use borrow.Author.Tests.{ne_eqb}
use Rattle.laws.specs.Idioms.{text, every, is_empty, within, Within}
use Rattle.laws.proofs.Tests.{and_both, clash, inside}
use Rattle.pieces.specs.Pieces.{pieces_from, text_at, piece_of}
use Rattle.reasons.specs.Reasons.{numbered_texts, reason_text, longest_reason}

pub own-text : (number : ℕ) → number ≡ 255 → text "an output is shorter than the tasks" ≡ reason_text number
unfolding reason_text
own-text number e = rw e

pub piece-text : (number : ℕ) → (number ≡ 255 → ⊥) → piece_of 124 numbered_texts number ≡ reason_text number
unfolding reason_text
piece-text number other = rw (ne_eqb number 255 other)

-- every text of a list that has one
every-text : (p : List ℕ → Bool) (l : List (List ℕ)) (k : ℕ) → is_empty l ≡ false → every p l ≡ true → p (text_at l k) ≡ true
every-text p [] k some all = absurd (clash some)
every-text p (x ∷ []) k some all = (and_both (p x) true all).0
every-text p (x ∷ y ∷ l) zero some all = (and_both (p x) (every p (y ∷ l)) all).0
every-text p (x ∷ y ∷ l) (suc k) some all = every-text p (y ∷ l) k refl (and_both (p x) (every p (y ∷ l)) all).1

fits : List ℕ → Bool
fits words = within 1 longest_reason (length words)

numbered_fit : every fits (pieces_from 124 [] numbered_texts) ≡ true
unfolding fits numbered_texts
numbered_fit = refl

numbered_some : is_empty (pieces_from 124 [] numbered_texts) ≡ false
unfolding numbered_texts
numbered_some = refl

all_fit : (number : ℕ) (b : Bool) → fits (cond b (text "an output is shorter than the tasks") (piece_of 124 numbered_texts number)) ≡ true
unfolding fits piece_of
all_fit number true = refl
all_fit number false = every-text fits (pieces_from 124 [] numbered_texts) number numbered_some numbered_fit

pub reason-length : (number : ℕ) → Within 1 longest_reason (length (reason_text number))
unfolding fits reason_text
reason-length number = inside 1 longest_reason _ (all_fit number (eqb number 255))
