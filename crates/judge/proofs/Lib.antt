-- The laws that the operations' proofs cite.
--     Links      the order of refusals of a judgement
pub mod Links
