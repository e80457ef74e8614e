-- The sets of a bus table have no effect on its judgement: no price depends on them. Assumes nothing.
use Prim.Native.Nat.{ℕ}
use mathlib.Core.Path.{◌≡◌, sym, fun_ext, ◌∙◌}
use mathlib.Core.List.{List}
use Rattle.laws.specs.Idioms.{entry}
use Rattle.rules.specs.declared.Table.{Table}
use Rattle.rules.specs.declared.Answer.{Answer}
use Rattle.rules.specs.Tasks.{tasks_on, higher, arrivals}
use Rattle.rules.specs.Bus.{other_cores, bus_RD, bus_JD}
use Rattle.rules.specs.Board.{bus_memory, memory_of}
use Rattle.rules.specs.Response.{F, decider}
use Rattle.rules.specs.Judgement.{lowest, rounds_of, judge}
use Rattle.rules.specs.Refusals.{check_table, asked_fault, late_start, high_start, check_judged, check_start, check_one, check_all}
use Rattle.rules.specs.Operations.{judge_one, answers_from, judge_all}
use Rattle.rules.specs.Listing.{table_lines, table_text}
use Rattle.claims.specs.Sets.{with_sets, OnBus, SetsAside}
use Rattle.file_claims.proofs.NoRefusal.{table-plain}

module _ (t : Table) (sets : List ℕ) (on : OnBus t sets) where
  abbrev other : Table
  other = with_sets sets t

  same_memory : (p : ℕ) → memory_of other p ≡ memory_of t p
  unfolding memory_of bus_memory bus_RD bus_JD other_cores arrivals tasks_on
  same_memory p = rw on.bus

  same-F : (k : ℕ) → F other k ≡ F t k
  unfolding F higher
  same-F k = rw (same_memory _)

  same-decider : (k : ℕ) → decider other k ≡ decider t k
  unfolding decider higher
  same-decider k = rw (same_memory _)

  same-judge : (k start : ℕ) → judge other k start ≡ judge t k start
  unfolding judge rounds_of lowest
  same-judge k start = rw (same-F k, same-decider k)

  same_check : check_table other ≡ check_table t
  same_check = table-plain other on.other-accepted ∙ sym (table-plain t on.own-accepted)

  one_alike : (k start : ℕ) → judge_one other k start ≡ judge_one t k start
  unfolding judge_one check_one check_start check_judged asked_fault late_start high_start lowest
  one_alike k start = rw (same_check, same-F k, same-judge k start)

  module _ (start : ℕ → ℕ) where
    same-high : (k : ℕ) → high_start other k (start k) ≡ high_start t k (start k)
    unfolding high_start lowest
    same-high k = rw (same-F k)

    checks_alike : check_all other start ≡ check_all t start
    unfolding check_all check_judged late_start
    checks_alike = rw (same_check, fun_ext same-high)

    answers-alike : answers_from other start ≡ answers_from t start
    unfolding answers_from
    answers-alike = rw (fun_ext (λ k. same-judge k (start k)))

  all_alike : (starts : List ℕ) → judge_all other starts ≡ judge_all t starts
  unfolding judge_all
  all_alike starts = rw (checks_alike (entry 0 starts), answers-alike (entry 0 starts))

  text-alike : (answers : List Answer) → table_text other answers ≡ table_text t answers
  unfolding table_text table_lines check_judged
  text-alike answers = rw same_check

pub sets_aside : SetsAside
sets_aside = record { one = one_alike; all = all_alike; text = text-alike }
