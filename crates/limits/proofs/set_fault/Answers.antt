-- A set is empty, or is at least 2 to the number of partitions. Assumes nothing.
use Prim.Native.Nat.{ℕ, ◌*◌, ◌^◌, ◌%◌, ◌≤◌, ◌<◌}
use mathlib.Core.Path.{◌≡◌}
use native.Mathlib.Nat.{one-mul, mod-eq_of_lt, lt_of_le_of_lt}
use lib.Pow.{pow_mono}
use lib.Dec.{lit<}
use borrow.Author.Tests.{eq-eqb, ne_eqb}
use Rattle.rules.specs.Refusals.{set_fault}
use Rattle.chain.proofs.Faults.{not_less}
use Rattle.limits.proofs.set_fault.Goals as goal

-- what the shift gives
shifted : (n : ℕ) → n ≤ 16 → 1 * 2 ^ n % 4294967296 ≡ 2 ^ n
shifted n h =
    let fits : 2 ^ n < 4294967296 = lt_of_le_of_lt (pow_mono {j = 16} h) (lit< tt) in
    simp (one-mul, mod-eq_of_lt fits)

pub returns-then-set-eq0 : goal.returns-then-set-eq0
unfolding set_fault
returns-then-set-eq0 c = simp (eq-eqb _ _ c.if-set-eq0.true)

pub returns-else-set-eq0 : goal.returns-else-set-eq0
unfolding set_fault
returns-else-set-eq0 c = rw (shifted c.args.partitions c.requires, ne_eqb _ _ c.if-set-eq0.false) (not_less _ _)
