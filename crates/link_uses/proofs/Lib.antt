pub mod TwoControls
