-- The laws that the proofs of this crate cite.
--     Laid  answers stored into an output, one after the other
pub mod Laid
