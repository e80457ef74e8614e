-- Point 2, of `judge_all`. Assumes nothing.
use mathlib.Core.Path.{refl, ◌∙◌}
use Rattle.rules.specs.Operations.{judge_all, fresh_starts}
use Rattle.claims.proofs.Point2.{point_two}
use Rattle.facts.proofs.Chain.{allowed}
use Rattle.mission.proofs.judged_fresh.Goals as goal

pub returns : goal.returns
returns c = let t = c.args.t in record {
  value = c.judge_all.ensures;
  judged_right = λ table. record {
    answers = (judge_all t fresh_starts).answers;
    not_refused = c.judge_all.ensures ∙ allowed _ _ (rw (point_two.all-fresh t table) refl);
    each = λ k low high. point_two.all t k (record { table = table; first = low; last = high });
  };
}
