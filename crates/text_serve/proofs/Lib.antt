-- The laws of text_serve, a file each; other crates may cite the public ones.
pub mod Saying
pub mod Turning
pub mod Joining
pub mod Closing
pub mod Keeping
pub mod Noted
pub mod Asking
