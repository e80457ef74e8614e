-- What the proof of the function stands on.
--     Stores   a trailer as a run of stores
pub mod Stores
