-- Representation: the files of this folder.
pub mod ReadData
pub mod Relation
pub mod Views
