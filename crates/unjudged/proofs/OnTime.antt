-- Where no start is late, each is on time. Place i has number i + 1. Assumes nothing.
use mathlib.Core.Path.{◌≡◌}
use mathlib.Core.Bool.{Bool, true}
use mathlib.Core.List.{List}
use Prim.Native.Nat.{ℕ, ◌+◌, ◌-◌}
use native.Mathlib.Omega.{arith}
use lib.Dec.{ltb}
use borrow.Author.Tests.{ltb-false}
use Rattle.laws.specs.Idioms.{entry}
use Rattle.rules.specs.Chain.{is_accepted}
use Rattle.facts.proofs.First.{none_first}
use Rattle.unjudged.specs.Unjudged.{OnTime, first_after}

abbrev pub after : List ℕ → List ℕ → ℕ → Bool
after latest starts k = ltb (entry 0 latest k) (entry 0 starts k)

pub on_time : (latest starts : List ℕ) (n : ℕ) → is_accepted (first_after n latest starts) ≡ true → OnTime n latest starts
unfolding first_after
on_time latest starts n e =
    record {
      each = λ i h.
          let less : i + 1 - 1 ≡ i = omega arith in
          rw less at (ltb-false (entry 0 latest (i + 1)) (entry 0 starts (i + 1)) (none_first 12 (after latest starts) n e (i + 1) (omega arith) (omega arith)));
    }
