pub mod Stacks
pub mod Views
