-- What judging tasks of a table gives. Assumes nothing.
use Rattle.std.specs.Prelude.{ℕ, cond, Option, None, Some}
use Rattle.rules.specs.declared.Table.{Table}
use Rattle.rules.specs.declared.Answer.{Answer}
use Rattle.rules.specs.Judgement.{judge}
use Rattle.rules.specs.Refusals.{high_start}

-- none where 14 refuses it, or its answer
unfoldable pub climbed_for : Table → ℕ → ℕ → Option Answer
climbed_for t k start = let answer = judge t k start in cond (high_start t k start) None (Some answer)
