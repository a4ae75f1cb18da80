pub mod NumberLemmas
pub mod OneList
pub mod Readings
pub mod FieldLemmas
pub mod ReportLemmas
pub mod RefusalLemmas
pub mod Pressing
