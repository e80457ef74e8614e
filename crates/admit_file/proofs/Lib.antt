-- What the proofs of the functions stand on, and those of callers.
--     WasToJudge  what code knows of a file that it read to judge it
pub mod WasToJudge
