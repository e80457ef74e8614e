-- Blocks of words, then what is left. Assumes nothing.
use Prim.Native.Nat.{ℕ, ◌+◌, ◌-◌, ◌%◌, ◌<◌}
use mathlib.Core.Path.{◌≡◌, ◌∙◌}
use mathlib.Core.List.{◌++◌}
use native.Mathlib.Omega.{arith}
use lib.ListN.{length, length-append, get_or, take-append-drop}
use Rattle.sums.proofs.Walk.{walked-none, walked_next, next-fits, walked-all, last-fits}
use Rattle.sums.proofs.sums.Goals.{At-loop-block}
use Rattle.sums.proofs.sums.Goals as goal

byte : (c : At-loop-block) (i : ℕ) → get_or c.args.s.now i 0 < 256
byte c i = omega (arith, c.type_inv.s i)

pub loop-block-init : goal.loop-block-init
loop-block-init c =
    let s = c.args.s.now in
    let n = length s - length s % 8 in
    let long : length c.split_at.result.0.now % 8 ≡ 0 = omega (arith, c.split_at.ensures.front_len) in
    let whole : c.split_at.result.0.now ++ c.split_at.result.1.now ≡ s = rw (c.split_at.ensures.front, c.split_at.ensures.back) (take-append-drop n s) in
    let words = c.chunks-block-items.ensures.rest in
    rw (c.into_iter-block-iterator.ensures.into_iter_gives, words) (c.chunks-block-items.ensures.size, long, rw whole at (walked-none c.split_at.result.0.now c.split_at.result.1.now))

pub loop-block-preserved : goal.loop-block-preserved
loop-block-preserved c =
    let step = c.in-Some.ensures.steps in
    let left = c.loop-block.block-iterator.rest.now in
    let less : length left ≡ length c.in-Some.block.now + length c.next.new.self.rest.now = rw step.1.0 (length-append c.in-Some.block.now c.next.new.self.rest.now) in
    (omega arith, omega arith, rw (c.joined-t.ensures, c.word_sums.ensures) (walked_next c.loop-block.invariant.2 c.in-Some.block.now c.next.new.self.rest.now step.1.0))

pub joined-t-requires : goal.joined-t-requires
joined-t-requires c =
    let step = c.in-Some.ensures.steps in
    let h = next-fits c.loop-block.invariant.2 c.in-Some.block.now c.next.new.self.rest.now step.1.0 (byte (goal.at.joined-t-requires c).At-loop-block) (omega arith) in
    rw c.word_sums.ensures (record { sum_bound = h.0; running_bound = h.1 })

pub joined-requires : goal.joined-requires
joined-requires c =
    let h = last-fits c.loop-block.invariant.2 c.in-None.ensures.steps.1.0 (byte (goal.at.joined-requires c).At-loop-block) (omega arith) in
    rw c.byte_sums.ensures (record { sum_bound = h.0; running_bound = h.1 })

pub returns : goal.returns
returns c = c.joined.ensures ∙ rw c.byte_sums.ensures (walked-all c.loop-block.invariant.2 c.in-None.ensures.steps.1.0)
