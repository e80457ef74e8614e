-- What follows from the rules, in the words in which contracts of inner functions and proofs use it. Nothing here is one of the rules,
-- and none of it has to be believed: each is shown of the rules in proofs/.
--     Sound     the bounds of an accepted table
--     Prices    what a board's cores cost each other, as prices, DRAM's and a bus's
--     Steady    what is asked of any memory
--     Starts    a start that is not refused
--     Worsened  what is known of a table worsened
--     Lawful    what is asked of a kind of board
pub mod Sound
pub mod Prices
pub mod Steady
pub mod Starts
pub mod Worsened
pub mod Lawful
