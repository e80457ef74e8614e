-- A file with one byte altered is refused by `check`. Assumes nothing.
use borrow.Author.Rules.{rules}
use mathlib.Core.Path.{◌∙◌, sym, ap}
use Prim.Native.Nat.{ℕ, ◌<◌}
use lib.ListN.{get_or}
use Rattle.rules.specs.Chain.{granted}
use Rattle.facts.proofs.Reading.{refusal_read}
use Rattle.file_claims.proofs.Files.{point_one}
use Rattle.mission_files.proofs.OneByte.{refused-then}
use Rattle.mission_files.proofs.altered.Goals as goal

pub returns : goal.returns
returns c = let a = c.args in
    let are = c.alter.ensures in
    let bytes : (k : ℕ) → get_or a.file.now k 0 < 256 = λ k. search rules in
    let read = c.check.ensures ∙ ap (λ r. granted r tt) (sym (refusal_read _)) in
    record { file_after = (are, c.check.ensures); result_value = refused-then tt point_one.read a.file.now a.i a.b bytes (search rules) are read }
