-- The laws of desk, a file each; other crates may cite the public ones.
pub mod Places
pub mod Guesses
pub mod Steps
pub mod First
pub mod Determined
pub mod OfSlot
pub mod ReasonsDetermined
