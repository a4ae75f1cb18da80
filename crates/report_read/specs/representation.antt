-- Representation: the files of this folder.
pub mod Lanes
pub mod Listed
pub mod Plans
