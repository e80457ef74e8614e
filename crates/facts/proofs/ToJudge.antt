-- A file that is to be judged: what is read of it, and what it is known to be where nothing is refused. Assumes nothing.
use mathlib.Core.Path.{◌≡◌, refl, sym, ◌∙◌}
use mathlib.Core.Bool.{Bool, true, false}
use mathlib.Core.List.{List}
use Prim.Native.Nat.{ℕ}
use Rattle.rules.specs.Kinds.{says_salvaged}
use Rattle.rules.specs.Chain.{is_accepted, given, granted}
use Rattle.rules.specs.Refusals.{check_judged}
use Rattle.rules.specs.File.{form_in, decode}
use Rattle.rules.specs.Operations.{read_nothing, check_file, check_to_judge, read_to_judge}
use Rattle.facts.proofs.Chain.{both-accepted, denied}
use Rattle.facts.proofs.Reading.{decoded_accepted, read_table}

module _ (s : List ℕ) where
  pub refusal_to_judge : (read_to_judge s).refusal ≡ check_to_judge s
  unfolding read_to_judge
  refusal_to_judge = refl

  pub refused_to_judge : is_accepted (check_to_judge s) ≡ false → read_to_judge s ≡ read_nothing (check_to_judge s)
  unfolding read_to_judge
  refused_to_judge e = rw e

  module _ (passed : is_accepted (check_to_judge s) ≡ true) where
    links : (is_accepted (check_file s) ≡ true) × (is_accepted (given 18 0 (says_salvaged (form_in s))) ≡ true)
    unfolding check_to_judge
    links = both-accepted (check_file s) (given 18 0 (says_salvaged (form_in s))) passed

    pub judged_file : is_accepted (check_file s) ≡ true
    judged_file = links.0

    pub judged-table : is_accepted (check_judged (decode s)) ≡ true
    unfolding check_judged decode
    judged-table = rw (decoded_accepted s judged_file) links.1

    pub table_to_judge : (read_to_judge s).table ≡ decode s
    unfolding read_to_judge
    table_to_judge = rw passed (read_table s judged_file)

  -- as code answers it
  pub read-to_judge_is : granted (read_to_judge s).refusal (read_to_judge s).table ≡ granted (check_to_judge s) (decode s)
  read-to_judge_is = go (is_accepted (check_to_judge s)) refl
    where
      go : (b : Bool) → is_accepted (check_to_judge s) ≡ b → granted (read_to_judge s).refusal (read_to_judge s).table ≡ granted (check_to_judge s) (decode s)
      go true e = rw (refusal_to_judge, table_to_judge e)
      go false e = rw refusal_to_judge (denied (check_to_judge s) (read_to_judge s).table e ∙ sym (denied (check_to_judge s) (decode s) e))
