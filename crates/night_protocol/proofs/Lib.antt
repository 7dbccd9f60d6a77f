-- The laws of night_protocol, a file each; other crates may cite them.
pub mod Rows
pub mod Faults
pub mod ReadBack
