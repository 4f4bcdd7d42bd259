pub mod Points
pub mod Boards
pub mod Edits
pub mod Routes
pub mod Views
