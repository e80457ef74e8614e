-- The laws that the proofs of the crates over this one cite.
--     Walk     a chain of three and more links, as code walks it
--     Faults   one fault or another, and comparisons, as code tests them
pub mod Walk
pub mod Faults
