-- Representation: the files of this folder.
pub mod Around
pub mod Asked
pub mod Named
pub mod Relation
