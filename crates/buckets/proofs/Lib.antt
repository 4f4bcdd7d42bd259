pub mod Placing
pub mod Loading
pub mod Sweeping
pub mod Framing
pub mod Backing
pub mod Soundness
pub mod Filled
