-- F by its parts. Assumes nothing.
use Rattle.std.proofs.Common.{rules, arith}
use Rattle.terms.specs.Terms.{job_of}
use Rattle.terms.proofs.Cut.{by_request, by_job}
use Rattle.terms.proofs.apply.Goals as goal

pub returns-then-request-job : goal.returns-then-request-job
unfolding job_of
returns-then-request-job c =
    let higher = c.asked_higher-higher.ensures in
    let job = c.reached-job.ensures in
    by_request _ _ {top = 18446744073709551615} higher.summed.is higher.summed_2.is (search rules) job (omega (arith, job.high)) (search rules)

pub returns-else-request-job : goal.returns-else-request-job
unfolding job_of
returns-else-request-job c =
    let higher = c.asked_higher-higher.ensures in
    let job = c.reached-job.ensures in
    by_job _ _ {top = 18446744073709551615} higher.summed.is higher.summed_2.is (search rules) job (omega (arith, job.high)) (search rules)
