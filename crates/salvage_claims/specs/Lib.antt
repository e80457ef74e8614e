-- What docs/CLAIMS.md says of salvaging, of the rules' own definitions: a record is a demand, and its fields are the clauses. That they hold is proved in proofs/.
--     NewFile   what salvaging gives: an accepted file with the first records of the cut one; and what a refused one gives
--     Cut       of a cut file every record that fits is kept
--     NotJudged no salvaged table is ever judged
pub mod NewFile
pub mod Cut
pub mod NotJudged
