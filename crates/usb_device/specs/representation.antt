-- Representation: the files of this folder.
pub mod Value
pub mod Relation
pub mod Link
pub mod Link1
pub mod Whole
pub mod WholeReads
pub mod Layered
pub mod Paused
pub mod Played
pub mod Played0
pub mod Forgetting
pub mod Guarded
