-- What the contracts about job cite beside the rules.
pub mod Job
