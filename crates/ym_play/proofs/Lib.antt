pub mod BytesLemmas
pub mod CommandLemmas
mod Examples
pub mod NameLemmas
pub mod NumberLemmas
pub mod PlayLemmas
pub mod ScriptLemmas
pub mod SessionLemmas
pub mod WordsLemmas
