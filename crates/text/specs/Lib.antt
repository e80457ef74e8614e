-- What the contracts of this crate cite beside the laws.
--     Put   a text put into a buffer, and given to a lent buffer whole or not at all
pub mod Put
