-- What the proofs of the functions stand on.
--     Stores   a body as a run of stores
pub mod Stores
