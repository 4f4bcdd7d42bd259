pub mod Reaches
pub mod Steps
