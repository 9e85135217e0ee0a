pub mod KeepLemmas
pub mod LineLemmas
pub mod SessionLemmas
