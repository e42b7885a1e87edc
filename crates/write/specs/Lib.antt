pub mod Bytes
pub mod Optional
