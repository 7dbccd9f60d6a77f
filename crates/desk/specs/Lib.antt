-- The definitions of desk, a file each.
pub mod Promises
pub mod Determined
pub mod Guesses
