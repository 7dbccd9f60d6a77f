-- The definitions of text_protocol, a file each.
pub mod Names
pub mod Kinds
pub mod Line
pub mod Written
pub mod LineCases
pub mod Kept
pub mod KeptCases
pub mod Calls
pub mod CallCases
pub mod Answers
pub mod AnswerCases
pub mod Roles
pub mod Reasons
pub mod ReasonCases
