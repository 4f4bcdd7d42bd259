pub mod Trailing
pub mod Refusing
