pub mod Places
pub mod Held
pub mod Values
pub mod Nulls
pub mod Physical
pub mod Lists
pub mod representation
