-- What the contract of a task's own figures cites.
pub mod Own
