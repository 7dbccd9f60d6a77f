-- What the contracts of a bond say: of its cash flows and how large Carry can be, of the ranges that its limits ask
-- for, and of a bond that is not refused before its limits.
pub mod FlowLaws
pub mod ByPlace
pub mod BondInputs
pub mod PriceKnown
