pub mod KeyLemmas
pub mod LineLemmas
pub mod NumberLemmas
pub mod ScriptLemmas
pub mod WordLemmas
