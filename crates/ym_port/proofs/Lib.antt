pub mod Dropping
pub mod Gathering
pub mod Hearing
pub mod InStepPassing
pub mod Moments
pub mod Passing
pub mod Reading
pub mod Walks
