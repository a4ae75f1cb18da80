pub mod Boot
pub mod Found
pub mod Numbers
pub mod Pressed
pub mod Refusals
pub mod representation
