-- The forms that the rules and the claims are written in; they know nothing of docs/RULES.md. All four are to be read before the rules and believed.
--     Idioms   sums over lists, members that pass a test, places, quotients, differences, little-endian numbers
--     Decimal  decimal digits
--     Bytes    lists of bytes, which the claims speak of
--     Pairs    two lists place by place, which the claims speak of
pub mod Idioms
pub mod Bytes
pub mod Decimal
pub mod Pairs
