pub mod Little
pub mod Format
pub mod Text
