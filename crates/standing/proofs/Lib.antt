-- The laws that the proofs of this crate, and of those over it, cite.
--     PlacesOn  the places on a core, as a loop over the tasks meets them
pub mod PlacesOn
