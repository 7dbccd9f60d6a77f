-- The laws and the tests of a day's rows.
pub mod RowLaws
pub mod RowTests
