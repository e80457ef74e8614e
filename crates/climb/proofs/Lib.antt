-- The laws that the proofs of this crate, and of those over it, cite.
--     Rises  the equation, and what the loop of its rounds keeps
pub mod Rises
