mod Theorem
pub mod Readings
pub mod Images
pub mod OfCells
pub mod Operating
mod Health
mod Words
pub mod Witnessing
mod Thrice
