-- Representation: the files of this folder.
pub mod Relation
