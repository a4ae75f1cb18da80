pub mod Cut
pub mod Inside
pub mod Leaving
pub mod Running
pub mod Shown
pub mod Stepping
pub mod Torn
