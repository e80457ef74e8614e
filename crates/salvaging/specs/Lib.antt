-- What inner functions promise. The rules say what salvaging gives.
--     Front  what is refused before the records are looked at, what an answer tells, and what salvaging promises
pub mod Front
