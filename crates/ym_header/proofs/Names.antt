-- The names that the proofs of this crate share, each with where it comes from.
pub use Rattle.ym_header.specs.Header.{HeaderParts, IsHeader, IsName, IsSafe, IsStamp, length_limit}
pub use Rattle.ym_header.specs.HeaderReading.{IsFault, Reads, ReadsHeader}
pub use Rattle.ym_header.specs.Split.{HasField, HasNoField, ReadsStamp, behind_field, field_in, name_in}
pub use Rattle.ym_header.specs.Text.{octal, text}
pub use Rattle.ym_header.specs.declared.fault.HeaderFault.TheVariants.{LengthLarge, NameEmpty, NameLong, NameUnsafe, NoLength}
pub use Rattle.ym_header.specs.declared.limits.TheConstants.{MOST_NAME_BYTES}
pub use Rattle.ym_header.specs.declared.reading.Zero.{Zero}
pub use Rattle.ym_header.specs.declared.reading.Zero.TheVariants.{End, File}
pub use Rattle.ym_header.specs.declared.stamp.Stamp.{Stamp}
pub use Rattle.ym_header.specs.declared.stamp.Stamp.TheVariants.{Nothing, Time, TimeMode}
