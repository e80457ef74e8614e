-- The laws that the proofs of this crate, and of those over it, cite.
--     First    the first change of two, as code asks for it; of many places, as a loop finds it
pub mod First
