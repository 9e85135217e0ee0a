mod Names
pub mod Acknowledged
pub mod Engines
pub mod Finishing
pub mod Prefixes
pub mod Ghosts
pub mod PositionsBefore
pub mod OnTheTape
pub mod Paired
pub mod SenderLaws
pub mod Spelling
pub mod SpellingRuns
pub mod SpellingTable
