-- What the proofs of the functions stand on.
--     Record   a record as a run of stores
pub mod Record
