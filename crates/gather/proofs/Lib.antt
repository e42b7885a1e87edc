pub mod Sorted
pub mod Sound
