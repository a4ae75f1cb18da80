pub mod Checks
pub mod Plain
pub mod Stored
pub mod Uses
pub mod Whole
pub mod representation
