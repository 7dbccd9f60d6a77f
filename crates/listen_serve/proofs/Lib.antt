-- The laws of listen_serve, a file each; other crates may cite the public ones.
mod Places
mod ListeningTurns
mod FromOn
mod Whole
pub mod Lines
pub mod OldFormTold
