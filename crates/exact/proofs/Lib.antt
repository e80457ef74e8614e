-- The statement of specs/ holds; and what the numbers of the C functions say.
--     Exact    every promise allows one result
--     Codes    what a 0 of each C function says, and how the header's macros give back what a number is made of
pub mod Exact
pub mod Codes
