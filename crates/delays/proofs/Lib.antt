-- The laws that the proofs of this crate, and of those over it, cite.
--     Bounds      how large the delay figures get
pub mod Bounds
