pub mod ItemLemmas
pub mod Numbers
pub mod TagLemmas
pub mod TotalLemmas
pub mod PartLemmas
pub mod StackLemmas
pub mod GlobalLemmas
pub mod LocalLemmas
pub mod ReportLemmas
pub mod StateLemmas
pub mod FaultLemmas
pub mod UsageLemmas
pub mod CountLemmas
pub mod FewLemmas
pub mod ReadingLemmas
pub mod OneFault
pub mod CutLemmas
mod SoundLemmas
pub mod WellLemmas
pub mod WalkLemmas
pub mod LinkLemmas
pub mod ReaderLemmas
mod BesideLemmas
