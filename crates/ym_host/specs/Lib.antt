pub mod Drip
pub mod ReadAhead
pub mod ReadSource
pub mod Ticks
pub mod Tty
