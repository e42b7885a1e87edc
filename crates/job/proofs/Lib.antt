pub mod Stays
pub mod Moves
pub mod Still
pub mod Cancelled
