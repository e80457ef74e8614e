-- The judgement of one task: its refusals in their order, or its answer. Assumes nothing.
use mathlib.Core.Path.{◌≡◌, sym, ◌∙◌, ap}
use mathlib.Core.Bool.{true}
use Rattle.std.specs.Prelude.{Option, ok_or}
use Rattle.rules.specs.declared.Answer.{Answer}
use Rattle.facts.proofs.Chain.{was-allowed}
use Rattle.rules.specs.Chain.{is_accepted, refused}
use Rattle.rules.specs.Refusals.{check_start}
use Rattle.judge.proofs.Links.{start-sound, start-within, start_fits, stops-start, rounds-decide}
use Rattle.judge.proofs.judge_one.Goals.{In_ok-start}
use Rattle.judge.proofs.judge_one.Goals as goal

-- past refusals 5 to 13
start-passes : (c : In_ok-start) → is_accepted (check_start c.args.table c.args.k c.args.start.0) ≡ true
start-passes c = (was-allowed _ _ (sym c.in_ok-start.ensures)).0

pub returns-in_err-start : goal.returns-in_err-start
returns-in_err-start c = stops-start _ _ _ c.from_residual.ensures.1 c.in_err-start.ensures

pub judge_task-requires : goal.judge_task-requires
judge_task-requires c = let a = c.args in
    let p = start-passes (goal.at.judge_task-requires c).In_ok-start in
    record { sound = start-sound a.table a.k a.start.0 p; within = (start-within a.table a.k a.start.0 p, start_fits a.table a.k a.start.0 p) }

pub returns : goal.returns
returns c =
    rounds-decide _ _ _ c.in_ok-start.ensures (c.ok_or.ensures.value ∙ ap (λ (o : Option Answer). ok_or o (refused 14 c.args.k)) c.judge_task.ensures)
