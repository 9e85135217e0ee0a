pub mod MemFolder
