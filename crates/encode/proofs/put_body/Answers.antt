-- What stands before the trailer, part by part. Assumes nothing.
use mathlib.Core.Path.{◌≡◌}
use Prim.Native.Nat.{◌+◌}
use native.Mathlib.Omega.{arith}
use borrow.Author.Rules.{rules}
use lib.ListN.{length}
use Rattle.places.proofs.Places.{sets-limit, after-sets}
use Rattle.encode.proofs.Stores.{body_stores}
use Rattle.encode.proofs.put_body.Goals.{Start}
use Rattle.encode.proofs.put_body.Goals as goal

arrays : (c : Start) → (length c.args.t.now.timing ≡ 15) × (length c.args.t.now.sets ≡ 8)
arrays c = (search rules, search rules)

pub put_counts-requires : goal.put_counts-requires
put_counts-requires c =
    let t = c.args.t.now in
    omega (arith, sets-limit t.fourth, after-sets t.fourth t.cores (t.tasks + 1))

pub put_figures-requires : goal.put_figures-requires
put_figures-requires c =
    let t = c.args.t.now in
    omega (arith, arrays (goal.at.put_figures-requires c).Start, c.put_counts.auto, sets-limit t.fourth, after-sets t.fourth t.cores (t.tasks + 1))

pub put_figures-requires-2 : goal.put_figures-requires-2
put_figures-requires-2 c =
    let t = c.args.t.now in
    omega (arith, arrays (goal.at.put_figures-requires-2 c).Start, c.put_counts.auto, c.put_figures.auto, c.sets_at.ensures, c.from.ensures, after-sets t.fourth t.cores (t.tasks + 1))

pub returns : goal.returns
returns c =
    rw (c.put_tasks.ensures, c.from-2.ensures, c.put_figures-2.ensures, c.from.ensures, c.sets_at.ensures.value, c.put_figures.ensures, c.put_counts.ensures)
    (body_stores c.args.t.now (arrays (goal.at.returns c).Start).0 (arrays (goal.at.returns c).Start).1 (search rules) c.args.out.now)
