-- Representation: the files of this folder.
pub mod Kept
pub mod Rows
pub mod Relation
pub mod Counted
