-- The laws of those reasons that other crates and docs/ cite, a file each.
pub mod First
pub mod Prices
pub mod Rates
pub mod Levels
pub mod Figures
pub mod Agrees
pub mod Truth
pub mod AdmissionFaults
