pub mod Outcome
pub mod Composites
pub mod Adding
