-- What is proved of a term whose band is a pair that was worked out.
pub mod Bands
