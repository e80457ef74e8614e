-- What the contracts of this crate say, in the words of the claims.
--     Written  a read table written back
pub mod Written
