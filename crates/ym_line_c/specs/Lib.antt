pub mod LineCodes
pub mod Parts
pub mod Line
pub mod Bulk
