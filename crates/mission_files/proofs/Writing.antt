-- What code answers of a table that is written, and of a file that was not read. Assumes nothing.
use mathlib.Core.Path.{◌≡◌, refl, ap}
use mathlib.Core.Bool.{Bool, true, false, cond}
use mathlib.Core.List.{List}
use Prim.Native.Nat.{ℕ}
use lib.ListN.{length}
use Rattle.std.specs.Prelude.{Ok, Err}
use Rattle.std.specs.Result.{result_unwrap_or}
use Rattle.rules.specs.declared.Table.{Table}
use Rattle.rules.specs.Results.{Read}
use Rattle.rules.specs.Chain.{is_accepted, granted}
use Rattle.rules.specs.File.{encode}
use Rattle.rules.specs.Operations.{empty_table, reading, check_write, writing, out_after}
use Rattle.rules.proofs.EveryRule.{every_rule}
use Rattle.facts.proofs.Reading.{refusal_read, refused-read}

-- the length, which is 0 where nothing is written
pub length_of : (t : Table) (out : List ℕ) → result_unwrap_or (granted (writing t out).refusal (writing t out).length) 0 ≡ (writing t out).length
unfolding writing granted
length_of t out = go (is_accepted (check_write t out))
  where
    go : (b : Bool) → result_unwrap_or (cond b (Ok (cond b (length (encode t)) 0)) (Err (check_write t out))) 0 ≡ cond b (length (encode t)) 0
    go true = refl
    go false = refl

-- the table of RULES 9.2 is refused, so it is not written
empty-refused : (out : List ℕ) → is_accepted (check_write empty_table out) ≡ false
unfolding every_rule
empty-refused out = refl

empty-unwritten : (out : List ℕ) → (0 ≡ (writing empty_table out).length) × (out ≡ out_after empty_table out)
unfolding writing out_after
empty-unwritten out = rw (empty-refused out) (refl, refl)

pub unread : (s out : List ℕ) → is_accepted (reading s).refusal ≡ false → (0 ≡ (writing (reading s).table out).length) × (out ≡ out_after (reading s).table out)
unread s out e = let nothing = ap (λ (r : Read). r.table) (refused-read s (rw (refusal_read s) at e)) in rw nothing (empty-unwritten out)
