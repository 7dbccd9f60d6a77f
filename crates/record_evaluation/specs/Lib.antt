-- What an evaluation comes to before it is answered.
pub mod Workings
