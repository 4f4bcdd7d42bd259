pub mod Tables
pub mod Plans
pub mod Searches
pub mod Tallies
