-- `put_rows` meets its contract. The invariant: the lines of the tasks passed have been put. Assumes nothing.
use mathlib.Core.Path.{◌≡◌}
use Prim.Native.Nat.{◌+◌, ◌*◌, ◌≤◌}
use lib.ListN.{length}
use Rattle.rows.specs.Rows.{rows}
use Rattle.text.specs.Put.{Put}
use Rattle.rows.proofs.put_rows.Given as goal

abbrev pub invariant-loop-i : goal.invariant-loop-i
invariant-loop-i l = (length l.buf ≡ length l.initial.buf) × (l.end ≤ l.at + 100 * l.i) × Put l.initial.buf l.at (rows l.t l.answers l.i) l.end l.buf
