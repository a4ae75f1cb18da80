pub mod Clean
pub mod BootLemmas
pub mod CallLemmas
