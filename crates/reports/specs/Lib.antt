pub mod Wanted
pub mod Layouts
pub mod Calls
pub mod Queue
pub mod Poll
pub mod Answers
pub mod History
pub mod representation
