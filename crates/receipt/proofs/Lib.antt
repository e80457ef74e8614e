-- The laws that the proofs of the functions cite, and that the statement of specs/Status.antt holds.
--     Receipt  what a receipt and its number are, by what is refused
--     Tied     they say the same
pub mod Receipt
pub mod Tied
