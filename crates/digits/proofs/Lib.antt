-- Laws that belong to no one function.
--     Decimal  the digits of a number
pub mod Decimal
