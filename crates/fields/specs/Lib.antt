-- What the functions promise beside the rules.
--     Places  runs of figures, and a file of the right length
pub mod Places
