-- What is listed for a file, by what read_to_judge it gave: a refusal's line, or the lines of the table. Assumes nothing.
use mathlib.Core.Path.{◌≡◌, sym}
use mathlib.Core.List.{List}
use Prim.Native.Nat.{ℕ}
use lib.ListN.{replicate}
use Rattle.std.specs.Prelude.{Ok, Err}
use Rattle.rules.specs.declared.Table.{Table}
use Rattle.rules.specs.declared.Refusal.{Refusal}
use Rattle.rules.specs.Chain.{granted}
use Rattle.rules.specs.Operations.{read_to_judge, judge_all}
use Rattle.rules.specs.Listing.{table_lines, listing, refused_line}
use Rattle.facts.proofs.Chain.{was-allowed, was-denied}

module _ (s : List ℕ) where
  pub listed-refused : {r : Refusal} → Err r ≡ granted (read_to_judge s).refusal (read_to_judge s).table → listing s ≡ refused_line r.number
  unfolding listing refused_line
  listed-refused e = let w = was-denied _ _ (sym e) in rw (w.0, w.1)

  pub listed-table : {t : Table} → Ok t ≡ granted (read_to_judge s).refusal (read_to_judge s).table
      → listing s ≡ table_lines t (judge_all t (replicate 32 0)).answers
  unfolding listing
  listed-table e = let w = was-allowed _ _ (sym e) in rw (w.0, w.1)
