-- The definitions of record_answers, a file each.
pub mod Effects
