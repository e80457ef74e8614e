-- A judgement that is not refused is of an accepted table, of a task in it, and from a start that the theory allows. Assumes nothing.
use mathlib.Core.Path.{◌≡◌}
use mathlib.Core.Bool.{true, false}
use Prim.Native.Nat.{ℕ, ◌≤◌}
use borrow.Author.Tests.{ltb-false, le-ltb, le-leb, not-false}
use Rattle.rules.specs.declared.Table.{Table}
use Rattle.rules.specs.Tasks.{latest, task_of}
use Rattle.rules.specs.Kinds.{is_salvaged}
use Rattle.rules.specs.Judgement.{lowest}
use Rattle.rules.specs.Chain.{is_accepted, ◌or_else◌, given}
use Rattle.rules.specs.Refusals.{check_table, asked_fault, late_start, high_start, check_judged, check_start, check_one}
use Rattle.facts.specs.Sound.{Sound}
use Rattle.facts.specs.Starts.{AllowedStart}
use Rattle.facts.proofs.Accepted.{sound}
use Rattle.facts.proofs.Chain.{both-accepted, no_fault}
use Rattle.laws.specs.Idioms.{Within}
use Rattle.laws.proofs.Tests.{inside}
use Rattle.facts.proofs.Instance.{lowest-fits}

module _ (t : Table) (k start : ℕ) where
  pub passes-allowed : late_start t k start ≡ false → high_start t k start ≡ false → AllowedStart t k start
  unfolding late_start high_start
  passes-allowed late high = record { given = ltb-false _ _ late; rises = λ fits. ltb-false _ _ high }

  pub allowed-passes : lowest t k ≤ latest (task_of t k) → AllowedStart t k start → (late_start t k start ≡ false) × (high_start t k start ≡ false)
  unfolding late_start high_start
  allowed-passes fits a = (le-ltb _ _ a.given, le-ltb _ _ (a.rises fits))

-- ---- a judgement of one task

pub record Judgeable (t : Table) (k start : ℕ) : Type 0 where
  pub judged : is_accepted (check_judged t) ≡ true
  pub number : Within 1 t.tasks k
  pub allowed : AllowedStart t k start

asked_within : (t : Table) (k : ℕ) → asked_fault t k ≡ false → Within 1 t.tasks k
unfolding asked_fault
asked_within t k e = inside 1 t.tasks k (not-false _ e)

-- the checks before a judgement begin with those of the table
pub judged-accepted : (t : Table) → is_accepted (check_judged t) ≡ true → is_accepted (check_table t) ≡ true
unfolding check_judged
judged-accepted t passed = (both-accepted (check_table t) (given 18 0 (is_salvaged t)) passed).0

pub judged-sound : (t : Table) → is_accepted (check_judged t) ≡ true → Sound t
judged-sound t passed = sound t (judged-accepted t passed)

pub one-judgeable : (t : Table) (k start : ℕ) → is_accepted (check_one t k start) ≡ true → Judgeable t k start
unfolding check_one check_start
one-judgeable t k start passed =
    let asked-link = given 12 0 (asked_fault t k) in
    let late-link = given 13 k (late_start t k start) in
    let (to-13, high) = both-accepted (check_judged t or_else asked-link or_else late-link) (given 14 k (high_start t k start)) passed in
    let (to-12, late) = both-accepted (check_judged t or_else asked-link) late-link to-13 in
    let (judged, asked) = both-accepted (check_judged t) asked-link to-12 in
    record {
      judged = judged;
      number = asked_within t k (no_fault 11 0 (asked_fault t k) asked);
      allowed = passes-allowed t k start (no_fault 12 k (late_start t k start) late) (no_fault 13 k (high_start t k start) high);
    }

pub judgeable-one : (t : Table) (k start : ℕ) → Judgeable t k start → is_accepted (check_one t k start) ≡ true
unfolding check_one check_start asked_fault
judgeable-one t k start j =
    let fits = lowest-fits t (judged-accepted t j.judged) k j.number.low j.number.high in
    let passes = allowed-passes t k start fits j.allowed in
    rw (passes.0, passes.1, le-leb 1 k j.number.low, le-leb k t.tasks j.number.high, j.judged)
