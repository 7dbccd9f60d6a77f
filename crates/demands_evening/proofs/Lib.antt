-- The proofs of it, each file after those that it stands on.
pub mod Valid
pub mod Whole
pub mod Calls
pub mod Tables
pub mod Lines
pub mod Holds
pub mod Streams
pub mod Served
pub mod JournalHolds
