-- The definitions of text_bytes, a file each.
pub mod Bytes
pub mod Split
pub mod Numbers
pub mod Spells
pub mod ByteCases
