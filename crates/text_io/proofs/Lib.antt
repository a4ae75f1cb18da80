pub mod DigitLemmas
pub mod PrintLemmas
pub mod ReadLemmas
