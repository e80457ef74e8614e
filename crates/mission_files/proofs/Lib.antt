-- What the proofs of four functions stand on.
--     OneByte  a file with one byte altered
--     Writing  what is written, and nothing where no file was read
pub mod OneByte
pub mod Writing
