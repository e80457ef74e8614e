-- Refusals 1 to 4 in their order. Assumes nothing.
use mathlib.Core.Path.{◌≡◌, refl}
use Prim.Native.Nat.{ℕ, ◌≤◌}
use native.Mathlib.Omega.{arith}
use borrow.Author.Tests.{ltb-false, eqb-true, not-false}
use Rattle.std.specs.Prelude.{Ok, ltb}
use Rattle.rules.specs.Chain.{given, granted}
use Rattle.rules.specs.File.{check_whole}
use Rattle.facts.proofs.Chain.{stops_at, goes_on_to, was-faultless}
use Rattle.arrival.proofs.whole.Goals as goal

-- 46 bytes are there
long-enough : {n : ℕ} {v : Unit {0}} → Ok v ≡ granted (given 1 0 (ltb n 46)) (tt {0}) → 46 ≤ n
long-enough {n} e = ltb-false n 46 (was-faultless 1 0 _ (tt {0}) (omega arith) e)

pub returns-in_err-refuse_if : goal.returns-in_err-refuse_if
unfolding check_whole
returns-in_err-refuse_if c = stops_at _ _ _ _ c.from_residual.ensures.1 (stops_at _ _ _ (tt {0}) refl c.in_err-refuse_if.ensures)

pub of-header-requires : goal.of-header-requires
of-header-requires c = omega (arith, long-enough c.in_ok-refuse_if.ensures)

pub returns-in_err-refuse_if-2 : goal.returns-in_err-refuse_if-2
unfolding check_whole
returns-in_err-refuse_if-2 c =
    stops_at _ _ _ _ c.from_residual-in_err-refuse_if-2.ensures.1
    (goes_on_to _ _ _ (tt {0}) c.in_ok-refuse_if.ensures (rw (c.file_length-length.ensures.value, c.of-header.ensures) at c.in_err-refuse_if-2.ensures))

pub trailer-requires-clause-in_bounds : goal.trailer-requires-clause-in_bounds
trailer-requires-clause-in_bounds c = omega (arith, long-enough c.in_ok-refuse_if.ensures)

pub trailer-requires-clause-file_len_bound : goal.trailer-requires-clause-file_len_bound
trailer-requires-clause-file_len_bound c =
    omega (arith, c.file_length-length.ensures.upper_bound, eqb-true _ _ (not-false _ (was-faultless 2 0 _ (tt {0}) (omega arith) c.in_ok-refuse_if-2.ensures)))

pub returns : goal.returns
unfolding check_whole
returns c =
    goes_on_to _ _ _ _ (goes_on_to _ _ _ (tt {0}) c.in_ok-refuse_if.ensures (rw (c.file_length-length.ensures.value, c.of-header.ensures) at c.in_ok-refuse_if-2.ensures)) c.trailer.ensures
