-- The four parts of a table's bytes before the trailer, and the places of the rows in them. Assumes nothing.
use mathlib.Core.Path.{◌≡◌, refl, ap, ◌∙◌}
use mathlib.Core.List.{List, [], ◌∷◌, ◌++◌, map, append_assoc}
use Prim.Native.Nat.{ℕ, suc, ◌+◌, ◌*◌, ◌-◌}
use native.Mathlib.Omega.{arith}
use lib.ListN.{take}
use Rattle.rules.specs.declared.Table.{Table}
use Rattle.laws.specs.Idioms.{joined, bytes_of, part}
use Rattle.rules.specs.Tasks.{tasks_of}
use Rattle.rules.specs.File.{sets_at, records_at, record_size, record_at, file_length, record_bytes, trailer, body, encode}
use Rattle.laws.proofs.ByteLists.{part_join}
use Rattle.laws.proofs.Rows.{Ladder}

unfoldable pub header : Table → List ℕ
header t = t.cores ∷ t.partitions ∷ t.tasks ∷ t.fourth ∷ []

unfoldable pub figure_bytes : Table → List ℕ
figure_bytes t = joined (map (bytes_of 2) t.timing)

unfoldable pub set_bytes : Table → List ℕ
set_bytes t = joined (map (bytes_of 2) (take t.cores t.sets))

unfoldable pub task_bytes : Table → List ℕ
task_bytes t = joined (map (record_bytes t.fourth) (tasks_of t))

pub body-parts : (t : Table) → body t ≡ header t ++ figure_bytes t ++ set_bytes t ++ task_bytes t
unfolding body header figure_bytes set_bytes task_bytes
body-parts t = refl

regroup : (h f s r q : List ℕ) → (h ++ f ++ s ++ r) ++ q ≡ h ++ (f ++ (s ++ (r ++ q)))
regroup h f s r q = simp append_assoc

pub encode-parts : (t : Table) → encode t ≡ header t ++ (figure_bytes t ++ (set_bytes t ++ (task_bytes t ++ trailer (body t))))
unfolding encode
encode-parts t =
    ap (λ (l : List ℕ). l ++ trailer (body t)) (body-parts t) ∙ regroup (header t) (figure_bytes t) (set_bytes t) (task_bytes t) (trailer (body t))

-- the figures start after the header, the sets after the figures and the records after the sets, each row after the one before
pub figure_ladder : Ladder 2 4 0 (λ k. 4 + 2 * k)
figure_ladder = record { starts = refl; steps = λ k low. omega arith }

pub sets-after-figures : (form : ℕ) → sets_at form ≡ 4 + 30
unfolding sets_at
sets-after-figures form = refl

pub set_ladder : (form : ℕ) → Ladder 2 (sets_at form) 0 (λ k. sets_at form + 2 * k)
set_ladder form = record { starts = omega arith; steps = λ k low. omega arith }

pub records-after-sets : (form cores : ℕ) → records_at form cores ≡ sets_at form + 2 * cores
unfolding records_at
records-after-sets form cores = refl

pub record_ladder : (form cores : ℕ) → Ladder (record_size form) (records_at form cores) 1 (record_at form cores)
unfolding record_at
record_ladder form cores = record {
  starts = omega arith;
  steps = λ k low. let e : k + 1 - 1 ≡ suc (k - 1) = omega arith in rw e (omega arith);
}

pub trailer-after-records : (form cores tasks : ℕ) → file_length form cores tasks ≡ records_at form cores + record_size form * tasks + 12
unfolding file_length
trailer-after-records form cores tasks = refl

-- the parts of a file behind its header, one after the other
pub parts-joined : (form cores n : ℕ) (s l : List ℕ)
    → l ++ part s 4 30 ++ part s (sets_at form) (2 * cores) ++ part s (records_at form cores) n ≡ l ++ part s 4 (records_at form cores + n - 4)
unfolding records_at sets_at
parts-joined form cores n s l =
    let e : 34 + 2 * cores + n - 4 ≡ 30 + (2 * cores + n) = omega arith in
    rw (e, ← part_join s 4 30 (2 * cores + n), ← part_join s 34 (2 * cores) n) (simp append_assoc)
