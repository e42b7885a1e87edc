pub mod Lists
pub mod Groups
pub mod Fit
pub mod Refusals
