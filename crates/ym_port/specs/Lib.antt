pub mod InStep
pub mod Passing
pub mod TimedPort
pub mod Turn
pub mod TurnExamples
pub mod Waits
pub mod Wire
