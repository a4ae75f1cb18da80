pub mod WorkCut
pub mod Happenings
pub mod Interrupted
pub mod Sessions
pub mod representation
