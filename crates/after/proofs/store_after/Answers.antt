-- `store_after` meets its contract. Assumes nothing.
use mathlib.Core.Path.{◌≡◌, ap, sym, ◌∙◌}
use native.Mathlib.Omega.{arith}
use lib.ListN.{length, take}
use Rattle.std.proofs.lemmas.List.{length-take-le}
use Rattle.facts.proofs.Starts.{judged-sound}
use Rattle.after.proofs.Either.{answers_long}
use Rattle.after.proofs.store_after.Goals.{After-answers_after-answers}
use Rattle.after.proofs.store_after.Goals as goal

long : (c : After-answers_after-answers) → length c.answers_after-answers.result ≡ 32
long c = ap length c.answers_after-answers.ensures ∙ answers_long c.args.older c.args.newer c.requires.older_value c.requires.newer_value

pub slice_bounds-answers-end : goal.slice_bounds-answers-end
slice_bounds-answers-end c =
    omega (arith, long c, (judged-sound _ c.requires.older_value).tasks-in.high, (judged-sound _ c.requires.newer_value).tasks-in.high)

pub slice_bounds-store_answers-end : goal.slice_bounds-store_answers-end
slice_bounds-store_answers-end c =
    let p = (goal.at.slice_bounds-store_answers-end c).After-answers_after-answers in
    sym (length-take-le _ _ (omega (arith, long p, (judged-sound _ c.requires.older_value).tasks-in.high, (judged-sound _ c.requires.newer_value).tasks-in.high)))

pub returns-clause-value : goal.returns-clause-value
returns-clause-value c =
    let p = (goal.at.returns-clause-value c).After-answers_after-answers in
    let many : length (take c.args.newer.tasks c.answers_after-answers.result) ≡ c.args.newer.tasks = length-take-le _ _ (omega (arith, long p, (judged-sound _ c.requires.newer_value).tasks-in.high)) in
    rw many at c.store_answers.ensures.value
