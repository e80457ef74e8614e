-- What is shown, and what is known of a task whose record is shown. Assumes nothing.
use mathlib.Core.Path.{◌≡◌}
use mathlib.Core.Bool.{true, false}
use mathlib.Core.List.{List, []}
use Prim.Native.Nat.{ℕ}
use borrow.Author.Tests.{not-false}
use Rattle.rules.specs.Chain.{is_accepted, given}
use Rattle.rules.specs.Refusals.{asked_fault}
use Rattle.rules.specs.File.{tasks_in, record_in, decode}
use Rattle.rules.specs.Operations.{check_file, check_view, viewing}
use Rattle.laws.specs.Idioms.{Within}
use Rattle.laws.proofs.Tests.{inside}
use Rattle.facts.proofs.Chain.{both-accepted, no_fault}
use Rattle.fields.specs.Places.{Sized}
use Rattle.file.proofs.Reading.{file_sized}

module _ (s : List ℕ) (k : ℕ) where
  pub view-nothing : is_accepted (check_view s k) ≡ false → viewing s k ≡ []
  unfolding viewing
  view-nothing e = rw e

  module _ (passed : is_accepted (check_view s k) ≡ true) where
    pub view_record : viewing s k ≡ record_in s k
    unfolding viewing
    view_record = rw passed

    links : (is_accepted (check_file s) ≡ true) × (is_accepted (given 12 0 (asked_fault (decode s) k)) ≡ true)
    unfolding check_view
    links = both-accepted (check_file s) (given 12 0 (asked_fault (decode s) k)) passed

    pub viewed_sized : Sized s
    viewed_sized = file_sized s links.0

    pub viewed_task : Within 1 (tasks_in s) k
    unfolding asked_fault decode
    viewed_task = inside 1 (tasks_in s) k (not-false _ (no_fault 11 0 _ links.1))
