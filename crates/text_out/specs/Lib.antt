-- The definitions of text_out, a file each.
pub mod Places
pub mod Wrote
pub mod Told
pub mod Sizes
pub mod Appends
