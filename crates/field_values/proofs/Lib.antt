mod Writing
pub mod NullLemmas
pub mod Fractions
pub mod Reading
mod Filling
pub mod Listing
