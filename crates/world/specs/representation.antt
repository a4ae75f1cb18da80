-- Representation: the files of this folder.
pub mod Flash
pub mod Private
pub mod Relation
pub mod Value
