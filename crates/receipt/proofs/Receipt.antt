-- What a receipt is, and the number of the program that writes it, by what is refused of the file. Assumes nothing.
use mathlib.Core.Path.{◌≡◌}
use mathlib.Core.Bool.{true, false}
use mathlib.Core.List.{List}
use Prim.Native.Nat.{ℕ}
use Rattle.laws.specs.Idioms.{text}
use Rattle.rules.specs.Chain.{is_accepted}
use Rattle.rules.specs.File.{check_whole}
use Rattle.rules.specs.Listing.{refused_line, receipt}
use Rattle.receipt.specs.Status.{receipt_status}

module _ (s : List ℕ) where
  module _ (e : is_accepted (check_whole s) ≡ true) where
    pub receipt-whole : receipt s ≡ text "whole\n"
    unfolding receipt
    receipt-whole = rw e

    pub status_whole : receipt_status s ≡ 0
    unfolding receipt_status
    status_whole = rw e

  module _ (e : is_accepted (check_whole s) ≡ false) where
    pub receipt-refused : receipt s ≡ refused_line (check_whole s).number
    unfolding receipt
    receipt-refused = rw e

    pub status_refused : receipt_status s ≡ 2
    unfolding receipt_status
    status_refused = rw e
