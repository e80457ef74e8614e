-- The laws that the proofs of this crate, and of those over it, cite.
--     Sums  sums over places, and a loop that makes one
pub mod Sums
