-- The definitions of record_calls, a file each.
pub mod Receipts
pub mod Good
