pub mod ByMask
pub mod Places
pub mod Writes
pub mod Operating
