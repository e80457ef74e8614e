-- The number, the receipt and the file say the same. Assumes nothing.
use mathlib.Core.Path.{◌≡◌, refl, sym, ap, ◌∙◌}
use mathlib.Core.Bool.{Bool, true, false}
use mathlib.Core.Logic.{◌⊎◌, inl, inr}
use mathlib.Core.List.{List, ◌++◌}
use Prim.Native.Nat.{ℕ}
use native.Mathlib.Omega.{arith}
use lib.ListN.{get_or}
use Rattle.laws.specs.Idioms.{text}
use Rattle.laws.specs.Decimal.{decimal}
use Rattle.laws.proofs.Tests.{clash}
use Rattle.rules.specs.Chain.{is_accepted}
use Rattle.rules.specs.File.{check_whole}
use Rattle.rules.specs.Listing.{refused_line, receipt}
use Rattle.receipt.specs.Status.{receipt_status, Tied}
use Rattle.receipt.proofs.Receipt.{receipt-whole, receipt-refused, status_whole, status_refused}

-- no text is both: they begin with other letters
two-words : (n : ℕ) → text "whole\n" ≡ text "refused " ++ decimal n ++ text "\n" → ⊥
two-words n e = let first : ◌≡◌ {A = ℕ} 119 114 = ap (λ (l : List ℕ). get_or l 0 0) e in omega arith

refused-words : (n : ℕ) → refused_line n ≡ text "refused " ++ decimal n ++ text "\n"
unfolding refused_line
refused-words n = refl

module _ (s : List ℕ) where
  decided : (b : Bool) → is_accepted (check_whole s) ≡ b → Tied s
  decided true e =
      let zero = status_whole s e in record {
        no_other = inl zero;
        whole = (λ h. receipt-whole s e, λ h. zero);
        came = (λ h. e, λ h. zero);
        refused = (λ h. absurd (omega arith), λ h. absurd (two-words h.0 (sym (receipt-whole s e) ∙ h.1)));
      }
  decided false e =
      let two = status_refused s e in
      let words = receipt-refused s e ∙ refused-words (check_whole s).number in record {
        no_other = inr two;
        whole = (λ h. absurd (omega arith), λ h. absurd (two-words (check_whole s).number (sym h ∙ words)));
        came = (λ h. absurd (omega arith), λ h. absurd (clash (sym h ∙ e)));
        refused = (λ h. ((check_whole s).number, words), λ h. two);
      }

  pub tied : Tied s
  tied = decided (is_accepted (check_whole s)) refl
