pub mod FieldLemmas
pub mod HexLemmas
pub mod UsageLemmas
