pub mod Pages
pub mod Changes
pub mod Words
pub mod Values
pub mod representation
