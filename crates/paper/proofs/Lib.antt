-- The laws of those definitions that other crates cite, each file after those that it stands on.
pub mod Logic
pub mod Differences
pub mod Search
pub mod Roundings
pub mod StaticsFacts
pub mod ExactValues
pub mod BitLaws
pub mod ByValue
pub mod EveryPattern
pub mod Same
