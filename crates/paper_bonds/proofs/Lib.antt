-- What is proved of the definitions of bonds (W-206): their figures, the limits off the book, and the refusals.
pub mod BondFigures
pub mod OffBook
pub mod BondRefusals
