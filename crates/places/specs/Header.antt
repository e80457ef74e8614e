-- The four bytes that a file begins with, by their names. Assumes nothing.
use Rattle.std.specs.Prelude.{ℕ, List}
use Rattle.places.specs.declared.Header.{Header}
use Rattle.rules.specs.File.{cores_in, partitions_in, tasks_in, form_in}

abbrev pub header_in : List ℕ → Header
header_in s = record { cores = cores_in s; partitions = partitions_in s; tasks = tasks_in s; form = form_in s }
