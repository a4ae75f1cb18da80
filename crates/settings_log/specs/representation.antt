-- Representation: the files of this folder.
pub mod Ring
pub mod Kinds
pub mod Scan
pub mod Here
