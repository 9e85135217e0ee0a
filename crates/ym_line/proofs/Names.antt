-- The names that the proofs of this crate share, each with where it comes from.
pub use Rattle.ym_frame.specs.Control.{reply_bytes}
pub use Rattle.ym_frame.specs.declared.control.Control.{Control}
pub use Rattle.ym_frame.specs.declared.control.Reply.{Reply}
pub use Rattle.ym_header.specs.Header.{HeaderParts, IsHeader, length_limit}
pub use Rattle.ym_file.specs.Kept.{Kept}
pub use Rattle.ym_file.specs.Plan.{IsPieces}
unfoldable pub use Rattle.ym_file.specs.Plan.{pieces_of}
pub use Rattle.ym_file.specs.SourceFile.{FileParts, IsFile, file_at, no_file}
pub use Rattle.ym_file.specs.declared.plan.Shape.{Shape}
pub use Rattle.ym_machine.specs.Frames.{File, frames_of}
pub use Rattle.ym_machine.specs.Machine.{State}
pub use Rattle.ym_machine.specs.Run.{IsDamage, NoFailure, Turn, after_turn, after_turns, came_back}
pub use Rattle.ym_machine.specs.declared.confirm.Confirm.{Confirm}
pub use Rattle.ym_machine.specs.declared.limits.TheConstants.{MOST_FILES}
pub use Rattle.ym_core.specs.Position.{done_at}
pub use Rattle.ym_core.specs.Scan.{controls_in}
pub use Rattle.ym_core.specs.declared.position.Position.{Position}
pub use Rattle.ym_core.specs.declared.state.SendState.{SendState}
pub use Rattle.ym_link.specs.ReceiverRefines.{IsBatch, bytes_of}
pub use Rattle.ym_link.specs.Sender.{IsSender, SenderParts, spoken}
pub use Rattle.ym_link.specs.SenderRefines.{AllTold, Batch, IsSaid, batch_of, file_of, told_pieces}
pub use Rattle.ym_line.specs.Completion.{AllWhole, AreGoing, HaveFinished, NoneCounted, whole_rounds}
pub use Rattle.ym_line.specs.Damage.{ShowsBack, arrives}
pub use Rattle.ym_line.specs.Promise.{AreNew, ReportsCommitted}
pub use Rattle.ym_line.specs.Rounds.{GoOn, Goes, IsTrace, Pair, RunGives, Stops, StopsIn, sent_by}
pub use Rattle.ym_line.specs.Turns.{AreTurns, CommitsFirst, FollowsMachine, IsSourceTruth, PairRefines, Reports, RunsAsMachine, StopsWithMachine, came_of, is_whole, turn_of}
pub use Rattle.ym_line.specs.What.{what_of}
pub use Rattle.ym_line.specs.declared.delivery.Delivery.{Delivery}
pub use Rattle.ym_line.specs.declared.delivery.Delivery.TheVariants.{Whole}
pub use Rattle.ym_line.specs.declared.delivery.Round.{Round}
pub use Rattle.ym_line.specs.declared.fault.LineFault.{LineFault}
pub use Rattle.ym_line.specs.declared.fault.LineFault.TheVariants.{Memory}
pub use Rattle.ym_line.specs.declared.trace.Seen.{Seen}
pub use Rattle.ym_line.specs.declared.trace.Trace.{Trace}
