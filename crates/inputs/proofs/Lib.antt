-- The laws of the range tests, and what a test that passed tells.
pub mod Tests
pub mod Facts
pub mod Made
mod Table
