-- The laws that the proofs of an evaluation share, from one price to the answer.
pub mod Prices
pub mod Sides
pub mod Books
pub mod Gathering
pub mod Answers
