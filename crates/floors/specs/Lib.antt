-- What the contracts about floors cite beside the rules.
pub mod Floors
