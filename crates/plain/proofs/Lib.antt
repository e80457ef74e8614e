-- What proofs above cite.
--     Codes  the number of an answer's refusal
pub mod Codes
