pub mod Accept
pub mod Keeping
pub mod Receiving
pub use Rattle.ym_file.specs.Counts
pub use Rattle.ym_link.specs.ReceiverInto
