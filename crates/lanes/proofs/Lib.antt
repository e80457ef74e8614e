-- What the proofs of the functions stand on.
--     Running  what more bytes add to both sums, and that both have room
--     Lanes    words of four lanes, and the lanes of a word by its eight bytes
--     Chunks   a slice as arrays
--     Words    both sums of whole words, held in lanes
pub mod Running
pub mod Lanes
pub mod Chunks
pub mod Words
