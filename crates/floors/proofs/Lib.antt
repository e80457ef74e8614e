-- The laws that the proofs of this crate, and of those over it, cite.
--     Weighed  requests of cores at their weights
--     Doubling  two jobs of each core's tasks, as a loop finds them
pub mod Weighed
pub mod Doubling
