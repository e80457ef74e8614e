-- The laws that the functions' proofs cite.
--     Weighed    weights and RD from the bits
pub mod Weighed
