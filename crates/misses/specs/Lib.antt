-- What the contracts of this crate cite beside the rules and `text`.
--     Last   the last line of a listing
pub mod Last
