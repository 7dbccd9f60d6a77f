-- The definitions of text_broadcast, a file each.
pub mod Sent
