-- What is proved of the interest side's definitions (W-201): its figures, their ranges, and its refusals.
pub mod Lifted
pub mod InterestRanges
pub mod InterestFigures
pub mod InterestRefusals
