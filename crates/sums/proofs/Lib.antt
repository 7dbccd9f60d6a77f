-- What is proved of sums: of a table; of the exclusive or, of the division, of the sum.
pub mod Table
pub mod Exclusive
pub mod Division
pub mod SumLaws
