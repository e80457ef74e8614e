-- Laws of the forms. They know nothing of the rules.
--     Sums       one member more; sums that do not fall
--     Linear     a sum of sums, of multiples, of a test
--     Members    what is known of a member
--     Paired     two lists, place by place
--     Every      a test of every place, as a loop makes it
--     Tests      what a test that passed says of its parts
--     Fill       an array filled place by place
--     Places     an array with a place for each number
--     Filled     a list's members in n places
--     Runs       numbers in a row mapped, runs of stores, lists of equal width joined
--     Parts      numbers in a part of a list
--     ByteLists  lists of bytes joined, cut and stored in
--     Rows       a list cut into parts of one size, each the code of a value
--     Bytes      little-endian numbers and their bytes
--     Signed     differences that keep their sign
--     Quotients  what makes rounding up a count
pub mod Sums
pub mod Linear
pub mod Members
pub mod Paired
pub mod Tests
pub mod Every
pub mod Fill
pub mod Runs
pub mod Places
pub mod Filled
pub mod Parts
pub mod Bytes
pub mod ByteLists
pub mod Rows
pub mod Signed
pub mod Quotients
