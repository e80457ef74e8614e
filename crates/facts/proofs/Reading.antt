-- Reading, its two parts taken as one; and what an accepted file is known to be: whole, and its table accepted. Assumes nothing.
use mathlib.Core.Path.{◌≡◌, refl, ap, ◌∙◌}
use mathlib.Core.Bool.{Bool, true, false, cond}
use mathlib.Core.List.{List}
use Prim.Native.Nat.{ℕ}
use Rattle.rules.specs.Results.{Read}
use Rattle.rules.specs.Chain.{is_accepted, granted}
use Rattle.rules.specs.Refusals.{check_table}
use Rattle.rules.specs.File.{check_whole, decode}
use Rattle.rules.specs.Operations.{empty_table, read_nothing, taking, reading, check_file}
use Rattle.facts.proofs.Chain.{both-accepted, granted-where}

module _ (s : List ℕ) where
  -- one refusal, and the table where there is none
  pub reading_is : ◌≡◌ {A = Read} (reading s) (record { refusal = check_file s; table = cond (is_accepted (check_file s)) (decode s) empty_table })
  unfolding reading taking check_file
  reading_is = go (is_accepted (check_whole s)) refl
    where
      go : (b : Bool) → is_accepted (check_whole s) ≡ b
          → ◌≡◌ {A = Read} (cond b (taking s) (read_nothing (check_whole s)))
          (record { refusal = cond b (check_table (decode s)) (check_whole s); table = cond (is_accepted (cond b (check_table (decode s)) (check_whole s))) (decode s) empty_table })
      go true e = refl
      go false e = rw e

  pub refusal_read : (reading s).refusal ≡ check_file s
  refusal_read = ap (λ (r : Read). r.refusal) reading_is

  -- as code answers it
  pub read_is : granted (reading s).refusal (reading s).table ≡ granted (check_file s) (decode s)
  read_is = rw reading_is (granted-where (check_file s) (decode s) empty_table)

  pub refused-read : is_accepted (check_file s) ≡ false → reading s ≡ read_nothing (check_file s)
  refused-read e = reading_is ∙ rw e

  module _ (accepted : is_accepted (check_file s) ≡ true) where
    links : (is_accepted (check_whole s) ≡ true) × (is_accepted (check_table (decode s)) ≡ true)
    unfolding check_file
    links = both-accepted (check_whole s) (check_table (decode s)) accepted

    pub file_whole : is_accepted (check_whole s) ≡ true
    file_whole = links.0

    pub decoded_accepted : is_accepted (check_table (decode s)) ≡ true
    decoded_accepted = links.1

    pub read_table : (reading s).table ≡ decode s
    read_table = ap (λ (r : Read). r.table) reading_is ∙ rw accepted

    pub read-accepted : is_accepted (check_table (reading s).table) ≡ true
    read-accepted = rw read_table decoded_accepted
