pub mod Digits
pub mod Printers
pub mod Readers
