-- What the proofs of the functions stand on.
--     Steps  a record as a part, and one figure more of a file
pub mod Steps
