-- The laws that the proofs of this crate cite.
--     FromPlace  sums and bounds of the tasks that stand from a place on
--     Stands     the terms of a task of a table: F, its rounds, and that they are fair
--     Holding    lent columns that hold the figures of a table
--     AllJudged  judging them is judging the table
--     Given      the answers, where no start is refused
pub mod FromPlace
pub mod Stands
pub mod Holding
pub mod AllJudged
pub mod Given
