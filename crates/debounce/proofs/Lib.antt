pub mod Rows
pub mod Counts
pub mod Words
pub mod Fed
pub mod Feeding
pub mod Newest
pub mod SetKeys
pub mod NoEdges
