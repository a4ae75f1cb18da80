pub mod Stages
pub mod Clean
pub mod Moves
pub mod Reports
pub mod Joined
mod Next
mod Left
