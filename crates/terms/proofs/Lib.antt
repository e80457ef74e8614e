-- The laws that the proofs of this crate cite.
--     Cut    F by its parts
pub mod Cut
