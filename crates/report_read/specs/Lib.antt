pub mod Items
pub mod Values
pub mod Refusals
pub mod representation
pub mod Changes
pub mod Buffered
