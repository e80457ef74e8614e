-- A cut file did not come whole. Assumes nothing.
use mathlib.Core.Path.{refl}
use lib.ListN.{take}
use Rattle.rules.specs.File.{check_whole}
use Rattle.facts.proofs.Chain.{denied}
use Rattle.file_claims.proofs.Files.{point_one}
use Rattle.mission_files.proofs.whole_cut_short.Goals as goal

pub returns : goal.returns
returns c = let a = c.args in
    let is = rw c.front.ensures at c.whole.ensures in
    record { value = is; result_value = λ came short. rw (is, denied (check_whole (take a.n a.file.now)) (tt {0}) (point_one.whole.cut_short a.file.now came a.n short)) refl }
