pub mod Forms
pub mod FormExamples
