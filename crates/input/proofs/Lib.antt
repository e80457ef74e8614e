-- Laws that belong to no one function.
--     Salvaged  an input and its first bytes are salvaged as the same
--     Long      how much of a file there is to read
pub mod Salvaged
pub mod Long
