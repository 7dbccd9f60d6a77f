-- The definitions of listen_serve, a file each.
pub mod Listen
pub mod OldForm
pub mod Steps
pub mod ListenCases
