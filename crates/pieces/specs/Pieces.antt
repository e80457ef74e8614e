-- The pieces of a text between marks, and one of them. Assumes nothing.
use Rattle.std.specs.Prelude.{ℕ, zero, suc, cond, List, [], ◌∷◌, ◌++◌, eqb}

-- read from the left, where `begun` is what has been read of a piece: a mark ends it, and so does the text's end
abbrev pub pieces_from : ℕ → List ℕ → List ℕ → List (List ℕ)
pieces_from mark begun [] = begun ∷ []
pieces_from mark begun (b ∷ s) = cond (eqb b mark) (begun ∷ pieces_from mark [] s) (pieces_from mark (begun ++ b ∷ []) s)

-- the text in a place counted from 0, the last where there are fewer
abbrev pub text_at : List (List ℕ) → ℕ → List ℕ
text_at [] k = []
text_at (x ∷ []) k = x
text_at (x ∷ y ∷ l) zero = x
text_at (x ∷ y ∷ l) (suc k) = text_at (y ∷ l) k

unfoldable pub piece_of : ℕ → List ℕ → ℕ → List ℕ
piece_of mark s k = text_at (pieces_from mark [] s) k
