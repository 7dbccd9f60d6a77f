-- The laws of record_monitoring, a file each; other crates may cite the public ones.
pub mod Judging
