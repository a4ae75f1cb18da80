pub mod FetchLemmas
pub mod OutputLemmas
pub mod PacketLemmas
pub mod PrintLemmas
pub mod WorkLemmas
