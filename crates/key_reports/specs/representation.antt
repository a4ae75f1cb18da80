-- Representation: the files of this folder.
pub mod Edges
pub mod Relation
pub mod Value
