-- What the contracts of judging lent columns cite beside the rules.
pub mod Lent
