-- `front_of` meets its contract: the header's counts in the front of a slice are bytes, as the slice's own are. Assumes nothing.
use mathlib.Core.List.{List, [], ◌∷◌}
use Prim.Native.Nat.{ℕ, zero, suc, ◌<◌}
use native.Mathlib.Omega.{arith}
use lib.ListN.{length, take, get_or}
use borrow.Author.Rules.{rules}
use Rattle.input.proofs.Long.{stands}
use Rattle.input.proofs.front_of.Goals.{After-front}
use Rattle.input.proofs.front_of.Goals as goal

byte-taken : (n : ℕ) (l : List ℕ) (i : ℕ) → get_or l i 0 < 256 → get_or (take n l) i 0 < 256
byte-taken zero l i h = omega arith
byte-taken (suc n) [] i h = h
byte-taken (suc n) (b ∷ l) zero h = h
byte-taken (suc n) (b ∷ l) (suc i) h = byte-taken n l i h

-- the count at a place of the header
count : (c : After-front) (i : ℕ) → get_or c.front.result.now i 0 < 256
count c i =
    let args = c.args in
    let byte : get_or args.s.now i 0 < 256 = omega (arith, c.type_inv.s i) in
    rw c.front.ensures (byte-taken args.n args.s.now i byte)

pub returns : goal.returns
returns c = let room : ℕ = length c.args.s.now in
    record { result_value = search rules; by_index = λ s begins. stands room (omega arith) s _ begins (count c 0) (count c 2) }
