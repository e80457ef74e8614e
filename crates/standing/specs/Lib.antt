-- What the contracts of this crate cite.
--     OnCore  the places of the tasks on a core
pub mod OnCore
