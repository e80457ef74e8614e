-- 19, 17, then 5 to 8 and 16. Assumes nothing.
use mathlib.Core.Path.{◌≡◌, sym}
use native.Mathlib.Omega.{arith}
use borrow.Author.Tests.{ltb-true, ltb-false}
use Rattle.rules.specs.File.{records_at, cores_in, form_in}
use Rattle.rules.specs.Salvage.{ends_early}
use Rattle.facts.proofs.Chain.{stops_at, goes_on_to, asked-ok, was-faulty, was-faultless, faulty}
use Rattle.chain.proofs.Walk.{stays}
use Rattle.places.proofs.Places.{record-place}
use Rattle.salvaging.specs.Front.{check_front}
use Rattle.salvaging.proofs.Links.{few_bytes}
use Rattle.salvaging.proofs.front_refusal.Goals.{After-record_at-records}
use Rattle.salvaging.proofs.front_refusal.Goals as goal

pub returns-in_err-refuse_if : goal.returns-in_err-refuse_if
unfolding check_front
returns-in_err-refuse_if c =
    stops_at _ _ _ _ c.from_residual.ensures.1 (stays _ _ _ (rw (sym (asked-ok _ _ c.check.ensures c.is_ok.ensures.value)) at c.in_err-refuse_if.ensures))

-- a file of less than four bytes
pub returns-in_err-refuse_if-2 : goal.returns-in_err-refuse_if-2
unfolding check_front
returns-in_err-refuse_if-2 c =
    let was = was-faulty 17 0 _ (tt {0}) (omega arith) c.in_err-refuse_if-2.ensures in
    stops_at _ _ _ _ c.from_residual-in_err-refuse_if-2.ensures.1
    (goes_on_to _ _ _ (tt {0}) (rw (sym (asked-ok _ _ c.check.ensures c.is_ok.ensures.value)) at c.in_ok-refuse_if.ensures)
    (rw was.1 (faulty 17 0 (tt {0}) (omega arith) (few_bytes _ (ltb-true _ 4 was.0)))))

pub of-header-requires : goal.of-header-requires
of-header-requires c = ltb-false _ 4 (was-faultless 17 0 _ (tt {0}) (omega arith) c.in_ok-refuse_if-2.ensures)

-- where the sets end
ends : (c : After-record_at-records) → let s = c.args.file.now in c.record_at-records.result ≡ records_at (form_in s) (cores_in s)
ends c =
    let s = c.args.file.now in
    omega (arith, rw c.of-header.ensures at c.record_at-records.ensures.value, record-place (form_in s) (cores_in s) 0)

pub returns-in_err-refuse_if-3 : goal.returns-in_err-refuse_if-3
unfolding check_front ends_early
returns-in_err-refuse_if-3 c =
    stops_at _ _ _ _ c.from_residual-in_err-refuse_if-3.ensures.1
    (goes_on_to _ _ _ (tt {0}) (rw (sym (asked-ok _ _ c.check.ensures c.is_ok.ensures.value)) at c.in_ok-refuse_if.ensures)
    (rw (ends (goal.at.returns-in_err-refuse_if-3 c).After-record_at-records) at c.in_err-refuse_if-3.ensures))

pub board-requires : goal.board-requires
board-requires c =
    omega (arith, ends (goal.at.board-requires c).After-record_at-records, ltb-false _ _ (was-faultless 17 0 _ (tt {0}) (omega arith) c.in_ok-refuse_if-3.ensures))

pub returns : goal.returns
unfolding check_front ends_early
returns c =
    goes_on_to _ _ _ _
    (goes_on_to _ _ _ (tt {0}) (rw (sym (asked-ok _ _ c.check.ensures c.is_ok.ensures.value)) at c.in_ok-refuse_if.ensures)
    (rw (ends (goal.at.returns c).After-record_at-records) at c.in_ok-refuse_if-3.ensures))
    c.board.ensures
