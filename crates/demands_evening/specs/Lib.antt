-- What holds of every evening, from the bytes that it is delivered; and that an accepted call is broadcast whole.
pub mod Whole
pub mod Calls
pub mod Holds
pub mod EveningCases
pub mod JournalHolds
