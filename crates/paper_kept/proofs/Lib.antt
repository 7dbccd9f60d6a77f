-- What accepted calls keep of a record, each file after those that it stands on.
pub mod Sound
pub mod Good
pub mod Made
