-- The definitions of text_deed, a file each.
pub mod Deeds
