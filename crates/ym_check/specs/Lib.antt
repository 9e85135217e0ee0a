pub mod Check
pub mod Fold
