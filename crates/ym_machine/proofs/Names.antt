-- The names that the proofs of this crate share, each with where it comes from.
pub use Rattle.ym_frame.specs.declared.control.Control.{Control}
pub use Rattle.ym_frame.specs.declared.control.Reply.{Reply}
pub use Rattle.ym_frame.specs.declared.control.Reply.TheVariants.{Ack, AckStart, Cancel, Nak, Silence, Start}
pub use Rattle.ym_machine.specs.Frames.{EndBlock, EndsOnce, Eot, File, Frame, Piece, files_within, frame_at, frame_before, frames_of, numbered_from}
pub use Rattle.ym_machine.specs.Steps.{Answer, KeepsReceiver, KeepsSender, SenderStays, asks_again, sender_step, controls, holds_start, is_within, receiver_step}
pub use Rattle.ym_machine.specs.RoundsRemaining.{IsGoing, ReceiverGoes, rounds_remaining, rounds_needed}
pub use Rattle.ym_machine.specs.Machine.{CallsForStart, CountersAgree, Invariant, SenderBroke}
pub use Rattle.ym_machine.specs.Run.{IsDamage, IsTurnDamage, NoFailure, Turn, after_turn, after_turns, came_back, is_whole, longest_bad_run}
pub use Rattle.ym_machine.specs.State.{ReceiverEnd, SenderEnd, State, said, start}
pub use Rattle.ym_machine.specs.declared.confirm.Confirm.{Confirm}
pub use Rattle.ym_machine.specs.declared.confirm.Confirm.TheVariants.{Twice}
pub use Rattle.ym_machine.specs.declared.limits.TheConstants.{BURST, GIVE_UP}
