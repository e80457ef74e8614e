-- What this crate's operations promise, over the rules.
--     Figures     the delay figures as times, together
pub mod Figures
