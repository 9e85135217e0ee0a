-- The names that the proofs of this crate share, each with where it comes from.
unfoldable pub use Rattle.ym_check.specs.Check.{check_of}
pub use Rattle.ym_frame.specs.Block.{BlockParts, length_of}
pub use Rattle.ym_frame.specs.Control.{IsSubsequence, behind, controls, is_control}
pub use Rattle.ym_frame.specs.Frame.{HasNoFrame, IsFrame, IsOpen, IsVerdict, block_verdict, body_of, cancel_verdict, check_field, fault_at}
unfoldable pub use Rattle.ym_frame.specs.Frame.{verdict_of}
pub use Rattle.ym_frame.specs.Reader.{IsBetween, body_left}
pub use Rattle.ym_frame.specs.Pieces.{item_of, scan_after}
pub use Rattle.ym_frame.specs.declared.frame.Broken.{Broken}
pub use Rattle.ym_frame.specs.declared.frame.Item.{Item}
pub use Rattle.ym_frame.specs.declared.frame.Item.TheVariants.{Block}
pub use Rattle.ym_frame.specs.declared.frame.Why.TheVariants.{Check, Complement, Cut, FirstByte}
