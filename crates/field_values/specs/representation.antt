-- Representation: the files of this folder.
pub mod Limits
pub mod Ranges
