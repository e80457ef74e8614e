-- The place of a task, its higher tasks counted. Assumes nothing.
use Rattle.std.proofs.Common.{◌≡◌, take, count_by, ◌==◌, get_or, rules}
use Rattle.standing.proofs.PlacesOn.{counted}
use Rattle.standing.proofs.place.Goals as goal

pub returns : goal.returns
returns c =
    let core = c.args.core.now in
    let own = get_or core c.args.k 0 in
    let higher : c.count.result ≡ count_by (λ x. x == own) (take c.args.k core) = search rules in
    rw (higher, counted core own c.args.k (search rules))
