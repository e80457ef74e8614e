-- `sides_of` gathers the bits from the last core down. Assumes nothing.
use Rattle.std.proofs.Common.{◌≡◌, Bool, true, false, ℕ, ◌+◌, ◌-◌, ◌*◌, ◌<◌, rules, arith}
use Rattle.std.proofs.Math.Nat.{sub-zero}
use Rattle.sides.specs.Masks.{mask_from, on_side}
use Rattle.sides.proofs.Masks.{mask_step, mask-room}
use Rattle.sides.proofs.sides_of.Goals.{In-loop-q}
use Rattle.sides.proofs.sides_of.Goals as goal

module _ (c : In-loop-q) where
  room : {bits : ℕ} (near : Bool) → bits ≡ mask_from (on_side near c.args.sets.now c.args.p) (c.loop-q.q + 1) (c.args.cores - c.loop-q.q)
      → bits * 2 + 1 < 256
  room near e = rw e (mask-room _ (c.loop-q.q + 1) (c.args.cores - c.loop-q.q) (search rules))

  near-room : c.loop-q.near * 2 + 1 < 256
  near-room = room true c.loop-q.invariant.0

  far-room : c.loop-q.far * 2 + 1 < 256
  far-room = room false c.loop-q.invariant.1

pub loop-q-init : goal.loop-q-init
unfolding mask_from
loop-q-init c = let e : c.args.cores - c.args.cores ≡ 0 = omega arith in (rw (e, mask_from), rw (e, mask_from))

pub overflow_mul-near : goal.overflow_mul-near
overflow_mul-near c = omega (arith, near-room (goal.at.overflow_mul-near c).In-loop-q)

pub overflow_add-near : goal.overflow_add-near
overflow_add-near c = omega (arith, near-room (goal.at.overflow_add-near c).In-loop-q)

pub overflow_mul-far : goal.overflow_mul-far
overflow_mul-far c = omega (arith, far-room (goal.at.overflow_mul-far c).In-loop-q)

pub overflow_add-far : goal.overflow_add-far
overflow_add-far c = omega (arith, far-room (goal.at.overflow_add-far c).In-loop-q)

pub loop-q-preserved : goal.loop-q-preserved
loop-q-preserved c =
    let l = c.loop-q in
    let a = c.args in (
      rw (mask_step (on_side true a.sets.now a.p) l.q a.cores (search rules) (search rules), l.invariant.0, c.on_side.ensures.0),
      rw (mask_step (on_side false a.sets.now a.p) l.q a.cores (search rules) (search rules), l.invariant.1, c.on_side-in-loop-q.ensures.0),
    )

pub returns : goal.returns
returns c =
    let e : c.loop-q.q ≡ 0 = omega arith in
    record { near_value = rw (c.loop-q.invariant.0, e, sub-zero); far_value = rw (c.loop-q.invariant.1, e, sub-zero) }
