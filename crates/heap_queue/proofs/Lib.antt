pub mod Heaping
pub mod Indexing
