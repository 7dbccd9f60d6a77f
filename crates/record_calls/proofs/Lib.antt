-- The laws of record_calls, a file each; other crates may cite the public ones.
mod Exponents
pub mod NoPrice
pub mod Judging
