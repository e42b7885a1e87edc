pub mod Parts
pub mod Regions
pub mod Deltas
pub mod Limits
