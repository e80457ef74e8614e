-- Bit 1 is set, or was: of each of the four bytes. Assumes nothing.
use mathlib.Core.Path.{◌≡◌, refl}
use Prim.Native.Nat.{ℕ, zero, suc, ◌<◌}
use native.Mathlib.Omega.{arith}
use Rattle.std.specs.Prelude.{bit_or}
use Rattle.rules.specs.Kinds.{says_salvaged, marked}
use Rattle.basics.proofs.mark_salvaged.Goals as goal

bit-set : (n : ℕ) → n < 4 → bit_or n 2 ≡ marked n
unfolding marked says_salvaged
bit-set zero h = refl
bit-set (suc zero) h = refl
bit-set (suc (suc zero)) h = refl
bit-set (suc (suc (suc zero))) h = refl
bit-set (suc (suc (suc (suc n)))) h = absurd (omega arith)

pub returns : goal.returns
returns c = bit-set c.args.fourth c.requires
