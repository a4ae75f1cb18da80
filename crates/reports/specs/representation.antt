-- Representation: the files of this folder.
pub mod Kept
pub mod Next
pub mod Relation
pub mod Words
