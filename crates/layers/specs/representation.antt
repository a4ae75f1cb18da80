-- Representation: the files of this folder.
pub mod CommandWords
pub mod HeldRelation
