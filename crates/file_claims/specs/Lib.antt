-- What the points of docs/CLAIMS.md say of table files, of the rules' own definitions: a record is a demand, and its fields are the clauses. That they hold is
-- proved in proofs/, which can be skipped. The crate `mission_files` says the main ones of the code itself. The rest of the points is in `claims`.
--     Files      point 1 and the second half of point 2: damage is refused, reading and writing return what they are given
--     Parts      reading in its two parts
pub mod Files
pub mod Parts
