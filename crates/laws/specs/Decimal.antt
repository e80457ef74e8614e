-- A number in decimal digits, as bytes. Assumes nothing.
use Rattle.std.specs.Prelude.{ℕ, zero, suc, ◌+◌, ◌/◌, ◌%◌, true, false, List, [], ◌∷◌, ltb}

-- n in decimal digits. The first number only bounds the recursion: each further digit leaves a smaller number
abbrev pub digits : ℕ → ℕ → List ℕ → List ℕ
digits zero n after = after
digits (suc more) n after =
    elim (ltb n 10) [ true ↦ (48 + n) ∷ after | false ↦ digits more (n / 10) ((48 + n % 10) ∷ after) ]

unfoldable pub decimal : ℕ → List ℕ
decimal n = digits (suc n) n []
