pub mod Described
pub mod HexTexts
pub mod Prints
pub mod Texts
