-- The laws of record_answers, a file each; other crates may cite the public ones.
pub mod Tests
pub mod Judging
