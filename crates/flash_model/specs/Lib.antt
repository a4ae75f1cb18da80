pub mod Assured
pub mod ByMask
pub mod Image
pub mod FlashOperation
pub mod Operated
pub mod Operations
pub mod Sim
pub mod Torn
