pub mod Units
pub mod Reading
pub mod Model
pub mod Paired
pub mod Cells
pub mod Witness
pub mod UnitOperation
pub mod Cut
