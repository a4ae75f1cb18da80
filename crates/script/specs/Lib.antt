pub mod Complaints
pub mod Keys
pub mod Numbers
pub mod Masks
pub mod Scripts
pub mod Statements
pub mod Words
pub mod representation
