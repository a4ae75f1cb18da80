pub mod Lost
pub mod Slots
pub mod History
pub mod Heads
pub mod Lookup
