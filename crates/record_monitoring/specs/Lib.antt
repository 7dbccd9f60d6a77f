-- The definitions of record_monitoring, a file each.
pub mod SharedChecks
