-- The definitions of night_protocol, a file each.
pub mod Night
pub mod Sheet
pub mod NightCases
