pub mod Late
pub mod Sets
pub mod Padding
pub mod Lenient
pub mod Answers
pub mod representation
