-- The lines of the tasks, which code makes one after the other. Assumes nothing.
use Rattle.std.specs.Prelude.{List, map, ℕ}
use Rattle.rules.specs.declared.Table.{Table}
use Rattle.rules.specs.declared.Answer.{Answer}
use Rattle.rules.specs.Judgement.{misses}
use Rattle.rules.specs.Tasks.{core_of}
use Rattle.laws.specs.Idioms.{up_to, entry, joined}
use Rattle.rules.specs.Listing.{task_line}

-- the lines of the first n tasks
unfoldable pub rows : Table → List Answer → ℕ → List ℕ
rows t answers n = joined (map (λ k. task_line k (core_of t k) (entry (misses 0) answers k)) (up_to n))
