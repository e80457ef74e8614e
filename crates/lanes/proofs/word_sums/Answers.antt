-- Words in lanes: after k of them the lanes hold the sums of the first k. Assumes nothing.
use Prim.Native.Nat.{ℕ, ◌+◌, ◌*◌, ◌/◌, ◌<◌}
use mathlib.Core.Path.{◌≡◌, ◌∙◌}
use mathlib.Core.List.{[]}
use native.Mathlib.Omega.{arith}
use Rattle.laws.specs.Idioms.{number_in, part}
use lib.ListN.{length, get_or}
use Rattle.lanes.specs.Lanes.{evens_of}
use Rattle.lent_bytes.proofs.Numbers.{le-number}
use Rattle.laws.proofs.Parts.{part_length}
use Rattle.lanes.proofs.Chunks.{chunk-at}
use Rattle.lanes.proofs.Words.{Held, held_none, held_next, held_fits}
use Rattle.lanes.proofs.word_sums.Goals.{After-from_le_bytes-w}
use Rattle.lanes.proofs.word_sums.Goals as goal

byte : (c : After-from_le_bytes-w) (i : ℕ) → get_or c.args.s.now i 0 < 256
byte c i = omega (arith, c.type_inv.s i)

-- the word that was read
word : (c : After-from_le_bytes-w) → c.from_le_bytes-w.result ≡ number_in (part c.args.s.now (8 * c.loop-word.word-index) 8)
word c =
    let s = c.args.s.now in
    let i = c.loop-word.word-index in
    let there : get_or c.as_chunks.result.0.now i [] ≡ part s (8 * i) 8 = rw c.as_chunks.ensures.front (chunk-at 8 (length s / 8) i s (omega arith)) in
    c.from_le_bytes-w.ensures ∙ rw there (le-number (part s (8 * i) 8) 7 (part_length s (8 * i) 8 (omega arith)))

-- the lanes after it, and their room
next : (c : After-from_le_bytes-w) → let x = c.loop-word in let even = x.e + evens_of c.from_le_bytes-w.result in let odd = x.o + evens_of (c.from_le_bytes-w.result / 256) in
    Held c.args.s.now (x.word-index + 1) even odd (x.re + even) (x.ro + odd)
next c = rw (word c) (held_next _ _ c.loop-word.invariant (byte c) (omega arith) (omega arith))

fits : (c : After-from_le_bytes-w) → let x = c.loop-word in let even = x.e + evens_of c.from_le_bytes-w.result in let odd = x.o + evens_of (c.from_le_bytes-w.result / 256) in
    (even < 18446744073709551616) × (odd < 18446744073709551616) × (x.re + even < 18446744073709551616) × (x.ro + odd < 18446744073709551616)
fits c = held_fits _ _ (next c) (omega arith)

pub loop-word-preserved : goal.loop-word-preserved
loop-word-preserved c = rw (c.evens-o.ensures, c.evens-e.ensures) (next (goal.at.loop-word-preserved c).After-from_le_bytes-w)

pub loop-word-init : goal.loop-word-init
loop-word-init c = held_none _

pub overflow_add-e : goal.overflow_add-e
overflow_add-e c = omega (arith, fits (goal.at.overflow_add-e c).After-from_le_bytes-w)

pub overflow_add-o : goal.overflow_add-o
overflow_add-o c = omega (arith, fits (goal.at.overflow_add-o c).After-from_le_bytes-w)

pub overflow_add-re : goal.overflow_add-re
overflow_add-re c = omega (arith, fits (goal.at.overflow_add-re c).After-from_le_bytes-w)

pub overflow_add-ro : goal.overflow_add-ro
overflow_add-ro c = omega (arith, fits (goal.at.overflow_add-ro c).After-from_le_bytes-w)
