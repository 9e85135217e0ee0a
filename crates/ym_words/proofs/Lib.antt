pub mod JobLemmas
pub mod CommandLemmas
