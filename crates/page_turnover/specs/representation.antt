-- Representation: the files of this folder.
pub mod Blocks
pub mod Log
pub mod Made
pub mod Turn
pub mod Value
pub mod Words
