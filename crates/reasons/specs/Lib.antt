-- What the contracts of this crate cite beside `text`.
--     Reasons   a short text for each refusal's number
pub mod Reasons
