-- Where nothing is refused of a table, of a start or of two tables, the refusal has number 0 and place 0. Assumes nothing.
use mathlib.Core.Path.{◌≡◌, refl}
use mathlib.Core.Bool.{true}
use mathlib.Core.Logic.{inl, inr}
use Prim.Native.Nat.{ℕ, ◌<◌}
use native.Mathlib.Omega.{arith}
use borrow.Author.Tests.{eqb-true}
use Rattle.rules.specs.declared.Refusal.{Refusal}
use Rattle.rules.specs.declared.Table.{Table}
use Rattle.rules.specs.Kinds.{is_salvaged}
use Rattle.rules.specs.Chain.{accepted, is_accepted}
use Rattle.rules.specs.Refusals.{check_table, asked_fault, late_start, high_start, check_judged, check_start, check_one}
use Rattle.rules.specs.Operations.{check_both}
use Rattle.file_claims.proofs.Numbers.{Gives, nothing, some, both_give, given_gives, wider, OfTable, table_gives}

-- accepted by its number is accepted as a whole
abbrev pub Plain : Refusal → Type 0
Plain r = is_accepted r ≡ true → r ≡ accepted

abbrev NotZero : Refusal → Type 0
NotZero r = 0 < r.number

plain : {r : Refusal} → Gives NotZero r → Plain r
plain nothing a = refl
plain (some {r = r} p) a = absurd (omega (arith, eqb-true r.number 0 a))

table-number : (r : Refusal) → OfTable r → NotZero r
table-number r (inl h) = omega (arith, h.low)
table-number r (inr e) = omega arith

module _ (t : Table) where
  pub table-plain : Plain (check_table t)
  table-plain = plain (wider table-number (table_gives t))

  judged_gives : Gives NotZero (check_judged t)
  unfolding check_judged
  judged_gives = both_give (wider table-number (table_gives t)) (given_gives 18 0 (is_salvaged t) (omega arith))

  pub one_plain : (k start : ℕ) → Plain (check_one t k start)
  unfolding check_one check_start
  one_plain k start =
      plain
      (both_give
      (both_give (both_give judged_gives (given_gives 12 0 (asked_fault t k) (omega arith))) (given_gives 13 k (late_start t k start) (omega arith)))
      (given_gives 14 k (high_start t k start) (omega arith)))

pub both-tables-plain : (older newer : Table) → Plain (check_both older newer)
unfolding check_both
both-tables-plain older newer = plain (both_give (judged_gives older) (judged_gives newer))
