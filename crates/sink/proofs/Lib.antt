pub mod Feeding
pub mod Sums
