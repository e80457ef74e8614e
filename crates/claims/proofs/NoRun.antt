-- With the rule of no row hit F is nowhere higher, so no bound is later; and all that is claimed of the rule. Assumes nothing.
use Prim.Native.Nat.{ℕ, ◌≤◌}
use mathlib.Core.Path.{refl, sym}
use native.Mathlib.Nat.{le_refl, le_of_eq}
use native.Mathlib.Omega.{arith}
use Rattle.equation.specs.Outcome.{Outcome, Solution, Correct, least, none}
use Rattle.equation.proofs.Least.{Under, low, past}
use Rattle.equation.proofs.Carry.{right_under}
use Rattle.laws.proofs.Paired.{paired_self}
use Rattle.rules.specs.declared.Task.{Task}
use Rattle.rules.specs.declared.Table.{Table}
use Rattle.rules.specs.Tasks.{C, H, releases, latest, task_of, core_of, higher}
use Rattle.rules.specs.Board.{memory_of}
use Rattle.rules.specs.Response.{F}
use Rattle.rules.specs.Operations.{judge_one}
use Rattle.rules.proofs.Figures.{agree}
use Rattle.rules.proofs.EveryRule.{every_rule}
use Rattle.facts.specs.Steady.{Slower, NoMore}
use Rattle.facts.proofs.Accepted.{sound}
use Rattle.facts.proofs.Memory.{response_worse}
use Rattle.facts.proofs.Instance.{equation_of_lem}
use Rattle.facts.proofs.Points.{fresh-right}
use Rattle.claims.specs.Point2.{JudgedTask, HoldsFresh}
use Rattle.claims.specs.NoRun.{former_run, former_intra, former_memory, former_F, formerly_and_now, NoRun}
use Rattle.claims.proofs.Point2.{fresh-judgeable, holds-fresh}
use Rattle.claims.proofs.Spared.{no_hit, some-hit, RD-falls, RD-stays, RD_no_more, JD-stays}

slower : (t : Table) (p : ℕ) → Slower (memory_of t p) (former_memory t p)
slower t p = record { per_request = RD_no_more t p; per_job = λ x. le_of_eq (sym (JD-stays t p x)) }

F_no_more : (t : Table) (k x : ℕ) → F t k x ≤ former_F t k x
unfolding F
F_no_more t k x =
    let same : (i : Task) → NoMore x x i i = λ i. record { exec = le_refl (C i); requests = le_refl (H i); often = le_refl (releases i x) } in
    response_worse (slower t (core_of t k)) (same (task_of t k)) (paired_self (higher t k) (λ j m. same j))

-- a right outcome that is under a time up to the deadline is a solution, no later
under_solved : {f : ℕ → ℕ} {d R : ℕ} {v : Outcome} → R ≤ d → Correct f 1 d v → Under d R v → (S : ℕ) × (Solution f 1 d S × (S ≤ R))
under_solved fits (least {R = S} m) (low h) = (S, (m.solution, h))
under_solved fits (none q) (past beyond) = absurd (omega arith)

module _ (t : Table) (k : ℕ) (task : JudgedTask t k) where
  no_later : (R : ℕ) → Solution (former_F t k) 1 (latest (task_of t k)) R → HoldsFresh t k R
  no_later R was =
      let table = task.table.accepted in
      let right = fresh-right t table k task.first task.last in
      let under = right_under (equation_of_lem t table k task.first task.last) right R was.from (omega (arith, F_no_more t k R, was.solves)) in
      let (S, now) = under_solved was.upto right under in
      let holds = holds-fresh t k 0 (fresh-judgeable t k task) S now.0 (judge_one t k 0).answer.verdict refl in
      record { bound = holds.bound; by = holds.by; fresh = holds.fresh; no_later = omega (arith, holds.no_later, now.1) }

pub no_run : NoRun
unfolding former_memory former_intra former_run formerly_and_now every_rule
no_run = record {
  none = no_hit;
  every-other = some-hit;
  falls = RD-falls;
  not_cut_off = λ t ok dram. ((sound t ok).row dram).recovery;
  RD-stays = RD-stays;
  JD-stays = JD-stays;
  no_later = no_later;
  figures = agree formerly_and_now 1 refl;
}
