-- Representation: the files of this folder.
pub mod Private
pub mod Shown
pub mod Relation
pub mod Value
