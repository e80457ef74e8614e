-- The counts of a salvage that is not refused: how many records are kept, and that the next one is missing or at fault. Assumes nothing.
use mathlib.Core.Path.{◌≡◌, refl, sym, ◌∙◌}
use mathlib.Core.Bool.{Bool, true, false, cond, not, ◌&&◌}
use mathlib.Core.Logic.{inl, inr, ◌↔◌, ◌≢◌}
use mathlib.Core.List.{List}
use Prim.Native.Nat.{ℕ, ◌+◌, ◌≤◌, ◌<◌}
use native.Mathlib.Omega.{arith}
use lib.Dec.{eqb}
use borrow.Author.Tests.{leb-false, eqb-true, eqb-false}
use Rattle.laws.proofs.Tests.{clash}
use Rattle.rules.specs.File.{record_task, record_in, cores_in, tasks_in}
use Rattle.rules.specs.Salvage.{reaches, task_fault, is_sound, kept, stopped, salvaging}
use Rattle.kept.proofs.Kept.{kept-most, kept_stop, kept_whole, kept_faultless}
use Rattle.salvage_claims.specs.NewFile.{Succeeds, Lacks, Counts}
use Rattle.salvage_claims.proofs.Passed.{passed}

module _ (s : List ℕ) where
  unsound_lacks : (k : ℕ) → is_sound s k ≡ false → Lacks s k
  unfolding is_sound reaches
  unsound_lacks k e = go (reaches s k) (task_fault (cores_in s) (record_task (record_in s k))) refl refl e
    where
      go : (b c : Bool) → reaches s k ≡ b → task_fault (cores_in s) (record_task (record_in s k)) ≡ c → b && not c ≡ false → Lacks s k
      go false c short f e = inl (leb-false _ _ short)
      go true true far f e = inr f
      go true false far f e = absurd (clash e)

  kept-lacks-nothing : (k : ℕ) → 1 ≤ k → k ≤ kept s → ¬ Lacks s k
  kept-lacks-nothing k low high (inl short) = omega (arith, kept_whole s k low high)
  kept-lacks-nothing k low high (inr fault) = clash (sym fault ∙ kept_faultless s k low high)

  -- it stopped nowhere, and all are kept; or after those that are kept
  stopped_either : (P : ℕ → Type 0) → (kept s ≡ tasks_in s → P 0) → (kept s < tasks_in s → P (kept s + 1)) → P (stopped s)
  unfolding stopped
  stopped_either P all some = go (eqb (kept s) (tasks_in s)) refl
    where
      go : (b : Bool) → eqb (kept s) (tasks_in s) ≡ b → P (cond b 0 (kept s + 1))
      go true e = all (eqb-true _ _ e)
      go false e = some (omega (arith, kept-most s, eqb-false (kept s) (tasks_in s) e))

  stopped-all : (stopped s ≡ 0) ↔ (kept s ≡ tasks_in s)
  stopped-all =
      stopped_either (λ n. (n ≡ 0) ↔ (kept s ≡ tasks_in s)) (λ e. (λ z. e, λ e. refl))
      (λ less. (λ z. absurd (omega arith), λ e. absurd (omega arith)))

  stopped-next : stopped s ≢ 0 → stopped s ≡ kept s + 1
  stopped-next = stopped_either (λ n. n ≢ 0 → n ≡ kept s + 1) (λ e some. absurd (some refl)) (λ less some. refl)

  stopped-there : stopped s ≤ tasks_in s
  stopped-there = stopped_either (λ n. n ≤ tasks_in s) (λ e. omega arith) (λ less. omega arith)

  stopped-lacks : stopped s ≢ 0 → Lacks s (stopped s)
  stopped-lacks =
      stopped_either (λ n. n ≢ 0 → Lacks s n) (λ e some. absurd (some refl)) (λ less some. unsound_lacks (kept s + 1) (kept_stop s less))

pub counts : (s out : List ℕ) → Succeeds s out → Counts s out
unfolding salvaging
counts s out done = record {
  promised = rw done;
  some = rw done (passed s out done).some;
  no_more = rw done (kept-most s);
  kept = rw done (kept-lacks-nothing s);
  all = rw done (stopped-all s);
  next = rw done (stopped-next s);
  there = rw done (stopped-there s);
  lacks = rw done (stopped-lacks s);
}
