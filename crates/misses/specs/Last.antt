-- The last line of a listing, as code finds it. Assumes nothing.
use Rattle.std.specs.Prelude.{List, [], ◌∷◌, ℕ, Option}
use Rattle.std.specs.declared.option.Option.TheVariants.{Some, None}
use Rattle.rules.specs.declared.Answer.{Answer}
use Rattle.rules.specs.Judgement.{misses}
use Rattle.laws.specs.Idioms.{up_to, entry, those}
use Rattle.rules.specs.Listing.{is_miss, last_line}

-- the last line for the first n tasks
unfoldable pub last : List Answer → ℕ → List ℕ
last answers n = last_line (those (λ k. is_miss (entry (misses 0) answers k).verdict) (up_to n))

-- the last line where that task is the first that misses, and where none does
abbrev pub last_for : Option ℕ → List ℕ
last_for None = last_line []
last_for (Some k) = last_line (k ∷ [])
