-- The definitions of text_call, a file each.
pub mod Terms
