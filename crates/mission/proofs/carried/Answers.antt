-- Point 3, of `judge_carried`. Assumes nothing.
use mathlib.Core.Path.{◌≡◌, refl, ◌∙◌}
use Rattle.std.specs.Prelude.{Ok}
use Rattle.rules.specs.declared.Rejudgement.{Rejudgement}
use Rattle.rules.specs.Chain.{accepted}
use Rattle.rules.specs.Results.{Rejudged}
use Rattle.rules.specs.Operations.{rejudging}
use Rattle.claims.proofs.Point3.{point_three}
use Rattle.rejudge.specs.Carried.{rejudged}
use Rattle.mission.proofs.carried.Goals as goal

-- what is given where nothing is refused
abbrev given : Rejudged → Rejudgement
given r = record { carried = r.carried; answers = r.answers }

not-refused : (r : Rejudged) → r.refusal ≡ accepted → rejudged r ≡ Ok (given r)
unfolding rejudged
not-refused r e = rw e refl

pub returns : goal.returns
returns c = let a = c.args in
    let again = rejudging a.older a.newer in
    let is = c.judge_carried.ensures.is in record {
      value = is;
      carried_right = λ worse. let claim = point_three.from_older a.older a.newer worse in record {
        judged = given again;
        not_refused = is ∙ not-refused again claim.again-accepted;
        carried = claim.again-carried;
        each = rw claim.again-answers claim.each;
      };
    }
