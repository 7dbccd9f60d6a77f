-- The words in which the laws speak of a term whose band is a pair that was worked out.
pub mod Pairs
