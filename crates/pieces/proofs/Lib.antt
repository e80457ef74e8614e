-- The laws that proofs of this crate and of others cite.
--     Walk  the pieces as a loop meets them
pub mod Walk
