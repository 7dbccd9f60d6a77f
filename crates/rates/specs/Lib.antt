-- What the rate rules are asked, and what they make, in the forms of the code.
pub mod RateRanges
pub mod Chosen
