-- The definitions of text_line, a file each.
pub mod ReadLine
