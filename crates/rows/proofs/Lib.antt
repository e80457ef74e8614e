-- Laws that belong to no one function.
--     TaskLines  the lines of the tasks
pub mod TaskLines
