-- What the contracts of this crate cite beside the rules.
--     Shown   how many tasks an accepted file has, and where a task's record starts
pub mod Shown
