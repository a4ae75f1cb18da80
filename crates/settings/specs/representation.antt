-- Representation: the files of this folder.
pub mod Reading
pub mod Store
pub mod Whole
pub mod Table
