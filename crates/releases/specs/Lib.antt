-- What the contracts about releases cite.
pub mod Releases
