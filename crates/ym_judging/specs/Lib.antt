pub mod Contents
pub mod JudgedSteps
pub mod Listening
pub mod Looking
pub mod Manners
pub mod SentFrames
