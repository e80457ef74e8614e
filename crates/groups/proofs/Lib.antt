-- The laws that the proofs of this crate cite.
--     Joining   the places on a core, as a loop over the tasks writes them
--     ByCore    those of all cores, core after core: no more than the tasks
--     InTurn    as a loop over the cores writes them
--     Filling   arrays filled with the figures of tasks
pub mod Joining
pub mod ByCore
pub mod InTurn
pub mod Filling
