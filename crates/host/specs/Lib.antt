pub mod Calls
pub mod Faultless
pub mod Kept
pub mod Reads
pub mod representation
