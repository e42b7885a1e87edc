pub mod BySize
pub mod Places
pub mod Tables
pub mod Orders
pub mod Kept
