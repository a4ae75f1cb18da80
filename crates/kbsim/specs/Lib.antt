pub mod Actions
pub mod Fetches
pub mod Outputs
pub mod Prints
pub mod Readers
pub mod Scripts
