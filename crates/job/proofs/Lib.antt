-- The laws that the proofs of this crate, and of those over it, cite.
--     Floor  job from its floor, and at time 0
--     Cores  job as a loop over the cores adds it up
pub mod Floor
pub mod Cores
