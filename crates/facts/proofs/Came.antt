-- What refusals 1 to 4 leave of a file. Assumes nothing.
use mathlib.Core.Path.{◌≡◌}
use mathlib.Core.Bool.{Bool, true, false, not}
use mathlib.Core.List.{List}
use Prim.Native.Nat.{ℕ, ◌-◌, ◌≤◌}
use lib.Dec.{eqb}
use lib.ListN.{length, take}
use borrow.Author.Tests.{ltb-false, le-ltb, eqb-true, eq-eqb, not-false}
use Rattle.rules.specs.File.{check_trailer, file_length, cores_in, tasks_in, form_in, sum_of, running_sum, check_whole}
use Rattle.rules.specs.Chain.{accepted, is_accepted, given, ◌or_else◌}
use Rattle.facts.proofs.Chain.{both-accepted, no_fault}
use Rattle.laws.specs.Idioms.{number_in, part}
use Rattle.laws.proofs.Tests.{or_neither}

pub record Whole (s : List ℕ) : Type 0 where
  pub long : 46 ≤ length s
  pub sized : length s ≡ file_length (form_in s) (cores_in s) (tasks_in s)
  pub counted : number_in (part s (length s - 12) 4) ≡ length s - 12
  pub summed : number_in (part s (length s - 8) 4) ≡ sum_of (take (length s - 12) s)
  pub resummed : number_in (part s (length s - 4) 4) ≡ running_sum (take (length s - 12) s)

-- two links and two more that give none
no_faults_lem : (a b c d : Bool) → is_accepted (given 1 0 a or_else given 2 0 b or_else (given 3 0 c or_else given 4 0 d)) ≡ true
    → ((a ≡ false) × (b ≡ false)) × ((c ≡ false) × (d ≡ false))
no_faults_lem a b c d e =
    let (front, back) = both-accepted (given 1 0 a or_else given 2 0 b) (given 3 0 c or_else given 4 0 d) e in
    let (one, two) = both-accepted (given 1 0 a) (given 2 0 b) front in
    let (three, four) = both-accepted (given 3 0 c) (given 4 0 d) back in
    ((no_fault 0 0 a one, no_fault 1 0 b two), (no_fault 2 0 c three, no_fault 3 0 d four))

equal : (a b : ℕ) → not (eqb a b) ≡ false → a ≡ b
equal a b e = eqb-true a b (not-false (eqb a b) e)

module _ (s : List ℕ) where
  pub whole : is_accepted (check_whole s) ≡ true → Whole s
  unfolding check_whole check_trailer
  whole e =
      let none = no_faults_lem _ _ _ _ e in
      let sums = or_neither _ _ none.1.1 in
      record {
        long = ltb-false _ _ none.0.0;
        sized = equal _ _ none.0.1;
        counted = equal _ _ none.1.0;
        summed = equal _ _ sums.0;
        resummed = equal _ _ sums.1;
      }

  pub came-whole : Whole s → check_whole s ≡ accepted
  unfolding check_whole check_trailer
  came-whole w =
      rw (le-ltb (length s) 46 w.long, eq-eqb _ _ w.sized, eq-eqb _ _ w.counted, eq-eqb _ _ w.summed, eq-eqb _ _ w.resummed)
