pub mod Explaining
pub mod ExplainingExamples
