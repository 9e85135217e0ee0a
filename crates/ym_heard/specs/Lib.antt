pub mod Cancel
pub mod Ear
pub mod Echoes
pub mod Hold
pub mod Sent
pub mod Times
