pub mod Next
pub mod Standing
pub mod Linked
pub mod Moving
mod Addressing
mod Answering
mod Looking
pub mod Resting
pub mod Behind
pub mod Stating
pub mod Carrying
pub mod Reporting
pub mod Emptying
pub mod Handing
pub mod Characters
pub mod Places
pub mod Layering
pub mod Bringing
mod Pausing
pub mod Wholes
pub mod Receiving
mod Playing
mod Playing0
pub mod Locking
pub mod Pacing
pub mod Blanks
