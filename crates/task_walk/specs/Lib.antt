-- What the steps of the checks stand for.
--     Faults  what a walk over the tasks keeps
pub mod Faults
