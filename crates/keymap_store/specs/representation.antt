-- Representation: the files of this folder.
pub mod Offers
pub mod Rest
pub mod Store
