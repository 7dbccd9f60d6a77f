-- The definitions of listen_lines, a file each.
pub mod Lines
