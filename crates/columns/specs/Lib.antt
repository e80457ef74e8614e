-- What the contracts of judging a table cite beside the rules.
pub mod Numbered
pub mod Held
