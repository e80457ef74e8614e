-- Writing what `read` gave returns the file. Assumes nothing.
use mathlib.Core.Path.{refl, sym, ◌∙◌}
use native.Mathlib.Omega.{arith}
use Prim.Native.Nat.{ℕ, ◌<◌}
use lib.ListN.{get_or}
use Rattle.rules.specs.Operations.{reading}
use Rattle.facts.proofs.Chain.{was-allowed, was-denied}
use Rattle.file_claims.proofs.Files.{return_in_place}
use Rattle.laws.proofs.ByteLists.{bytes_by_place}
use Rattle.mission_files.proofs.Writing.{length_of, unread}
use Rattle.mission_files.proofs.read_then_written.Goals as goal

pub returns-in-Ok : goal.returns-in-Ok
returns-in-Ok c =
    let a = c.args in
    let wrote = c.write.ensures in
    let read = reading a.file.now in
    let table = was-allowed read.refusal read.table (sym c.read.ensures ∙ c.in-Ok.is) in
    let byte : (i : ℕ) → get_or a.file.now i 0 < 256 = λ i. omega (arith, c.type_inv.file i) in
    rw (c.unwrap_or.ensures, wrote.answered, length_of c.in-Ok.table a.out.now, wrote.stored, ← table.1)
    (record { value = refl; out_after = refl; written_back = λ whole room. return_in_place.written_read a.file.now a.out.now (bytes_by_place a.file.now byte) whole room })

pub returns-in-Err : goal.returns-in-Err
returns-in-Err c =
    let a = c.args in
    let read = reading a.file.now in
    let refused = was-denied read.refusal read.table (sym c.read.ensures ∙ c.in-Err.is) in
    let nothing = unread a.file.now a.out.now refused.0 in
    record { value = nothing.0; out_after = nothing.1; written_back = λ whole room. let both = sym refused.0 ∙ whole in absurd cc }
