-- What a function promises beside the rules.
--     Header  the four bytes that a file begins with
pub mod Header
