pub mod Calls
pub mod Past
pub mod Codes
pub mod Tables
pub mod representation
