pub mod Sending
pub use Rattle.ym_file.specs.Counts
