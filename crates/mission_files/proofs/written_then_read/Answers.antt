-- Reading what `write` stored returns the table. Assumes nothing.
use borrow.Author.Rules.{rules}
use mathlib.Core.Path.{◌≡◌, refl, ap, sym, ◌∙◌}
use native.Mathlib.Omega.{arith}
use lib.ListN.{replicate}
use lib.Seq.{length-take-le}
use Rattle.std.specs.Result.{result_unwrap_or}
use Rattle.rules.specs.Results.{Read}
use Rattle.rules.specs.Chain.{accepted, granted}
use Rattle.rules.specs.Operations.{writing}
use Rattle.laws.proofs.Runs.{unmapped}
use Rattle.facts.proofs.Chain.{allowed}
use Rattle.file_claims.specs.Files.{Shape, cleared}
use Rattle.file_claims.proofs.Files.{return_in_place}
use Rattle.mission_files.proofs.Writing.{length_of}
use Rattle.mission_files.proofs.written_then_read.Goals.{After-unwrap_or-n, After-read}
use Rattle.mission_files.proofs.written_then_read.Goals as goal

shape : (c : After-read) → Shape c.args.t
shape c = record { figures = search (rules, unmapped); sets = search (rules, unmapped); tasks = search (rules, unmapped) }

n-is : (c : After-unwrap_or-n) → c.unwrap_or-n.result ≡ (writing c.args.t (replicate 990 0)).length
n-is c = c.unwrap_or-n.ensures ∙ ap (λ r. result_unwrap_or r 0) c.write.ensures.answered ∙ length_of c.args.t (replicate 990 0)

pub slice_bounds-room-end : goal.slice_bounds-room-end
slice_bounds-room-end c = omega (arith, c.write.auto, n-is c, return_in_place.fits c.args.t (replicate 990 0))

pub slice_bounds-read-end : goal.slice_bounds-read-end
slice_bounds-read-end c = let at = (goal.at.slice_bounds-read-end c).After-unwrap_or-n in sym (length-take-le _ _ (slice_bounds-room-end at))

pub returns : goal.returns
returns c =
    let t = c.args.t in
    let is = rw (n-is (goal.at.returns c).After-unwrap_or-n, c.write.ensures.stored) at c.read.ensures in
    record {
      value = is;
      value_2 = λ table. is ∙ ap (λ (r : Read). granted r.refusal r.table)
          (return_in_place.read_written t (replicate 990 0) (shape c) table (omega (arith, return_in_place.room t (shape c) table))) ∙ allowed accepted (cleared t) refl;
    }
