-- The definitions of text_input, a file each.
pub mod Input
