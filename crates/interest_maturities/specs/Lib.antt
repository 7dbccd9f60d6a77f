-- What the contracts say of an evening's key maturities, in order and by place, and which of them a term's figures are read off; of figures
-- between two maturities; and of a pair's band from the figures at its two terms.
pub mod KeyLaws
pub mod ByPlace
pub mod Reads
pub mod Points
pub mod Pair
pub mod Lift
pub mod Estimates
