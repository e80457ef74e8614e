-- What the proofs of the functions stand on, and those of callers.
--     Viewing  what viewing answers, one refusal at a time
pub mod Viewing
