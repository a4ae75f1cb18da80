-- Representation: the files of this folder.
pub mod Fits
pub mod Hints
pub mod Known
pub mod Walks
