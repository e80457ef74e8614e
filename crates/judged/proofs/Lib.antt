-- The laws that the proof of the function cites.
--     Judging   the two ways in which a file's judgement ends
pub mod Judging
