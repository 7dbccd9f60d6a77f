-- The laws of night_serve, a file each; other crates may cite the public ones.
mod Lines
mod Ids
pub mod Words
mod Whole
mod Entering
mod Walking
