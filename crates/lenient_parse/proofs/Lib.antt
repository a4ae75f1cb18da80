pub mod SizeLemmas
pub mod GoesLemmas
pub mod TextLemmas
