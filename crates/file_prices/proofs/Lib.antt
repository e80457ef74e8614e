-- The laws that the proofs of this crate cite.
--     InFile  what is known of an accepted file, and the table that it is
pub mod InFile
