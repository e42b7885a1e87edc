pub mod Meaning
pub mod Checksums
pub mod Kinds
pub mod Refusals
