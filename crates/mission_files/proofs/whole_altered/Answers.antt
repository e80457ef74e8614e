-- A file with one byte altered did not come whole. Assumes nothing.
use borrow.Author.Rules.{rules}
use Prim.Native.Nat.{ℕ, ◌<◌}
use lib.ListN.{get_or}
use Rattle.file_claims.proofs.Files.{point_one}
use Rattle.mission_files.proofs.OneByte.{refused-then}
use Rattle.mission_files.proofs.whole_altered.Goals as goal

pub returns : goal.returns
returns c = let a = c.args in
    let are = c.alter.ensures in
    let bytes : (k : ℕ) → get_or a.file.now k 0 < 256 = λ k. search rules in
    record { file_after = (are, c.whole.ensures); result_value = refused-then tt point_one.whole a.file.now a.i a.b bytes (search rules) are c.whole.ensures }
