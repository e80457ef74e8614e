-- Laws that belong to no one function.
--     TableLines the lines of a table
--     Listed     what is listed for a file, by what reading it gave
pub mod TableLines
pub mod Listed
