-- Bytes lowest first: what is left to store after some of them. Assumes nothing.
use Prim.Native.Nat.{◌+◌, ◌-◌}
use mathlib.Core.List.{append-nil}
use mathlib.Core.Path.{◌≡◌, ◌∙◌, sym}
use native.Mathlib.Omega.{arith}
use native.Mathlib.Nat.{sub-zero, zero-add}
use lib.ListN.{length, drop_of_length-le}
use Rattle.laws.specs.Idioms.{bytes_of, part}
use Rattle.laws.proofs.Bytes.{bytes-length}
use Rattle.laws.proofs.Parts.{byte_next, part_length}
use Rattle.laws.proofs.Runs.{sets-front}
use Rattle.lent_bytes.proofs.Parts.{part-put}
use Rattle.lent_bytes.proofs.put.Goals as goal

pub loop-byte-init : goal.loop-byte-init
loop-byte-init c =
    let a = c.args in
    let s = a.out.now in
    let e : a.at + a.n - a.at ≡ a.n = omega arith in
    let b = bytes_of a.n a.v in
    let long : length b ≡ length (part s a.at a.n) = bytes-length a.n a.v ∙ sym (part_length s a.at a.n (omega arith)) in
    rw (e, sub-zero) (sym (sets-front b (part s a.at a.n) (omega arith) ∙ rw (drop_of_length-le (part s a.at a.n) {i = length b} (omega arith), append-nil)))

pub loop-byte-preserved : goal.loop-byte-preserved
loop-byte-preserved c =
    let l = c.loop-byte in
    l.invariant ∙ simp zero-add at (byte_next l.byte-items 0 l.rest c.args.n l.byte-index (omega arith))

pub returns : goal.returns
unfolding bytes_of
returns c =
    let a = c.args in
    let l = c.loop-byte in
    let e : a.at + a.n - a.at ≡ a.n = omega arith in
    let long = part_length a.out.now a.at a.n (omega arith) in
    let done : a.n - l.byte-index ≡ 0 = omega (arith, rw e at c.loop-byte-test.false) in
    let all : l.byte-items ≡ bytes_of a.n a.v = rw done at (sym l.invariant) in
    rw all (part-put _ _ _ _ (omega arith) (bytes-length a.n a.v))
