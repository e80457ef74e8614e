-- Starts as the numbers that the rules speak of. Assumes nothing.
use Rattle.std.specs.Prelude.{ℕ, List, map}
use Rattle.rules.specs.declared.Picos.{Picos}

-- how many picoseconds each of these times is
abbrev pub in_picos : List Picos → List ℕ
in_picos times = map (λ t. t.0) times
