pub mod Scans
pub mod Samples
pub mod Windows
pub mod representation
