pub mod CommandLine
pub mod Job
pub mod PortNumber
