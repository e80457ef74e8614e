-- What the proof of `sums` stands on.
--     Walk  the bytes read block by block, and what is left
pub mod Walk
