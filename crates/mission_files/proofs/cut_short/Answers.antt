-- A cut file is refused by `check`. Assumes nothing.
use mathlib.Core.Path.{refl}
use Rattle.facts.proofs.Chain.{denied}
use Rattle.facts.proofs.Reading.{refusal_read}
use Rattle.file_claims.proofs.Files.{point_one}
use Rattle.mission_files.proofs.cut_short.Goals as goal

pub returns : goal.returns
returns c = let a = c.args in
    let is = rw c.front.ensures at c.check.ensures in
    record { value = is; result_value = λ whole short. rw (is, ← refusal_read _, denied _ (tt {0}) (point_one.read.cut_short a.file.now whole a.n short)) refl }
