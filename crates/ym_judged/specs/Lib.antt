pub mod Judged
pub mod JudgedExamples
