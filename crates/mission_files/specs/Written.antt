-- Point 2: what is written into a buffer, and a read file that is written back. Assumes nothing.
use Rattle.std.specs.Prelude.{ℕ, ◌≤◌, ◌≡◌, List, ◌++◌, length, take, drop}
use Rattle.rules.specs.declared.Table.{Table}
use Rattle.rules.specs.Operations.{writing, out_after}
use Rattle.file_claims.specs.Files.{AcceptedFile}

-- the bytes that writing t puts at the front of a buffer
abbrev pub written_to : List ℕ → Table → List ℕ
written_to out t = take (writing t out).length (out_after t out)

-- of an accepted file s, into a buffer with room for it
abbrev pub WrittenBack : List ℕ → List ℕ → ℕ → List ℕ → Type 0
WrittenBack s before n after = AcceptedFile s → length s ≤ length before → (n ≡ length s) × (after ≡ s ++ drop (length s) before)
