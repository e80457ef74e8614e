-- What code knows of a file that it read to judge it, by the answer. Assumes nothing.
use mathlib.Core.Path.{◌≡◌, sym, ◌∙◌}
use mathlib.Core.Bool.{true, false}
use mathlib.Core.List.{List}
use Prim.Native.Nat.{ℕ}
use Rattle.std.specs.Prelude.{Ok, Err}
use Rattle.rules.specs.declared.Refusal.{Refusal}
use Rattle.rules.specs.declared.Table.{Table}
use Rattle.rules.specs.Chain.{is_accepted, granted}
use Rattle.rules.specs.Refusals.{check_judged}
use Rattle.rules.specs.File.{decode}
use Rattle.rules.specs.Operations.{check_to_judge, read_to_judge}
use Rattle.facts.proofs.Chain.{was-allowed, was-denied}
use Rattle.facts.proofs.ToJudge.{judged-table, read-to_judge_is}

module _ (s : List ℕ) where
  pub not_accepted : {d : Refusal} → Err d ≡ granted (read_to_judge s).refusal (read_to_judge s).table → (is_accepted (check_to_judge s) ≡ false) × (check_to_judge s ≡ d)
  not_accepted e = was-denied (check_to_judge s) (decode s) (sym (e ∙ read-to_judge_is s))

  module _ {t : Table} (e : Ok t ≡ granted (read_to_judge s).refusal (read_to_judge s).table) where
    pub was-accepted : is_accepted (check_to_judge s) ≡ true
    was-accepted = (was-allowed (check_to_judge s) (decode s) (sym (e ∙ read-to_judge_is s))).0

    pub table_of : t ≡ decode s
    table_of = sym (was-allowed (check_to_judge s) (decode s) (sym (e ∙ read-to_judge_is s))).1

    pub table-judged : is_accepted (check_judged t) ≡ true
    table-judged = rw table_of (judged-table s was-accepted)
