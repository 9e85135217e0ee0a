pub mod Division
pub mod CheckNumbers
pub mod Register
pub mod Linear
pub mod Folding
pub mod FoldedBytes
pub mod Words
pub mod FourWords
