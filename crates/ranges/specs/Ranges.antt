-- A figure outside its range, for any two limits. Assumes nothing.
use Rattle.std.specs.Prelude.{ℕ, Bool, not, ◌&&◌, ◌||◌, eqb}
use Rattle.laws.specs.Idioms.{within}

abbrev pub not_burst : ℕ → Bool
not_burst x = not (eqb x 4 || eqb x 8 || eqb x 16)

-- figure k, of the lowest and the highest given, is x; figure 6 is BL
abbrev pub out_of_range : ℕ → ℕ → ℕ → ℕ → Bool
out_of_range lowest highest k x = not (within lowest highest x) || (eqb k 6 && not_burst x)
