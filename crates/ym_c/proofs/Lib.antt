pub mod Openings
pub mod Bodies
pub mod Fronts
pub mod Positions
pub mod Filling
