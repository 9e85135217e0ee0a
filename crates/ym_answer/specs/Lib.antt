pub mod Desk
pub mod Lines
pub mod Page
pub mod Status
pub mod StatusExamples
