-- The definitions of record_writing, a file each.
pub mod Needs
pub mod Evaluates
