pub mod Lent
pub mod Sameness
pub mod Places
pub mod Order
pub mod Numbers
