pub mod Those
pub mod Edges
pub mod Standing
pub mod Tabled
pub mod Pressed
