-- What the operation's contracts cite beside the rules.
--     Carried  a newer table after an older one
pub mod Carried
