-- What the contract of `piece` cites.
--     Pieces  the pieces of a text between marks, and one of them
pub mod Pieces
