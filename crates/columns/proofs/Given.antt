-- What the judgement of all of a table answers where no start is refused, and so from nothing: the answers. Assumes nothing.
use mathlib.Core.Path.{◌≡◌, refl}
use mathlib.Core.Bool.{true}
use mathlib.Core.List.{List}
use Prim.Native.Nat.{ℕ}
use Rattle.std.specs.Prelude.{Ok}
use Rattle.rules.specs.declared.Table.{Table}
use Rattle.rules.specs.Chain.{accepted, is_accepted, granted}
use Rattle.rules.specs.Refusals.{check_judged}
use Rattle.rules.specs.Operations.{judge_all, fresh_starts}
use Rattle.facts.specs.Starts.{AllAllowed}
use Rattle.facts.proofs.Chain.{allowed}
use Rattle.facts.proofs.Starts.{judged-accepted}
use Rattle.facts.proofs.AllStarts.{none-refused, all-fresh}

module _ (t : Table) (passed : is_accepted (check_judged t) ≡ true) where
  pub all_given : (starts : List ℕ) → AllAllowed t starts → granted (judge_all t starts).refusal (judge_all t starts).answers ≡ Ok (judge_all t starts).answers
  unfolding judge_all
  all_given starts all = rw (none-refused t passed starts all) (allowed accepted _ refl)

  pub fresh_given : granted (judge_all t fresh_starts).refusal (judge_all t fresh_starts).answers ≡ Ok (judge_all t fresh_starts).answers
  fresh_given = all_given fresh_starts (all-fresh t (judged-accepted t passed))
