-- What the proof of writing stands on.
--     Writing  what writing promises, refused and done, and the whole file stored
pub mod Writing
