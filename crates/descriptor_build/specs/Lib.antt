pub mod Served
pub mod Items
