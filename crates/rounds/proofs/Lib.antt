-- The laws that the proofs of this crate cite.
--     Nexts    for each core the place of its next task
--     Here     what is known of the task in a place
--     Judging  13, or 14, or the answers, as a loop finds them
pub mod Nexts
pub mod Here
pub mod Judging
