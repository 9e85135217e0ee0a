pub mod DeskSession
pub mod Looped
