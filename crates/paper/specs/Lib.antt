-- The definitions of the paper's values, each file after those that it stands on; the files named Pinned have tables.
pub mod Lists
pub mod Numbers
pub mod Roundings
pub mod Least
pub mod Ranges
pub mod Verdicts
pub mod Terms
pub mod PinnedValues
pub mod PinnedRanges
pub mod Floats
pub mod FloatValues
pub mod FloatCases
