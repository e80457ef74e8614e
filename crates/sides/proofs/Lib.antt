-- The laws that the functions' proofs cite, and those that callers do.
--     Common    two sets with a partition in common
--     Masks     cores as bits
pub mod Common
pub mod Masks
