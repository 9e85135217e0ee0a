-- The names that the proofs of this crate share, each with where it comes from.
pub use Rattle.ym_frame.specs.Block.{BlockParts}
pub use Rattle.ym_frame.specs.Control.{control_at, reply_bytes}
pub use Rattle.ym_frame.specs.Frame.{IsFrame}
unfoldable pub use Rattle.ym_frame.specs.Frame.{verdict_of}
pub use Rattle.ym_frame.specs.declared.control.Control.{Control}
pub use Rattle.ym_frame.specs.declared.control.Control.TheVariants.{Ack, Can, Start}
pub use Rattle.ym_frame.specs.declared.control.Reply.{Reply}
pub use Rattle.ym_frame.specs.declared.control.Reply.TheVariants.{AckStart, Cancel, Nak, Silence}
pub use Rattle.ym_frame.specs.declared.frame.Broken.{Broken}
pub use Rattle.ym_frame.specs.declared.frame.Item.{Item}
pub use Rattle.ym_header.specs.Header.{HeaderParts, IsHeader, length_limit}
pub use Rattle.ym_header.specs.Text.{end_text, text}
pub use Rattle.ym_header.specs.declared.fault.HeaderFault.{HeaderFault}
pub use Rattle.ym_header.specs.declared.reading.Zero.{Zero}
pub use Rattle.ym_file.specs.Collecting.{keep_all}
pub use Rattle.ym_file.specs.Counts.{Counted, raised}
pub use Rattle.ym_file.specs.Kept.{Kept, Told}
pub use Rattle.ym_file.specs.Plan.{piece_at}
pub use Rattle.ym_file.specs.SourceFile.{FileParts, IsFile, blocks_of, counts_of, file_at, filled, no_file}
pub use Rattle.ym_file.specs.declared.plan.Shape.{Shape}
pub use Rattle.ym_machine.specs.Frames.{BlockZero, EndBlock, Eot as EotFrame, File, Frame, Piece, body_at, count_within, files_within, frame_at, frames_of}
pub use Rattle.ym_machine.specs.Steps.{IsRemnant, asks_again, sender_step, nothing_taken}
pub use Rattle.ym_machine.specs.State.{ReceiverEnd, SenderEnd, State, said_by, start}
pub use Rattle.ym_machine.specs.declared.confirm.Confirm.{Confirm}
pub use Rattle.ym_machine.specs.declared.confirm.Confirm.TheVariants.{Twice}
pub use Rattle.ym_machine.specs.declared.limits.TheConstants.{GIVE_UP, MOST_FILES}
pub use Rattle.ym_core.specs.Hearing.{heard_at, heard_of}
pub use Rattle.ym_core.specs.Position.{IsPosition, count_at, done_at, first_of, next_of}
pub use Rattle.ym_core.specs.Scan.{controls_in, reads, reads_control}
pub use Rattle.ym_core.specs.Receiver.{Adds, Begins, Commits, No_call, Receiver, Step, covered_eot, ends, goes_on, hears_at, opened, running_hears, stays, zero_heard}
pub use Rattle.ym_core.specs.Standing.{after_fill, after_scan, hears, hears_in, missed, read_through}
pub use Rattle.ym_core.specs.Step.{Means, ReadsAs}
pub use Rattle.ym_core.specs.declared.delivery.Heard.{Heard}
pub use Rattle.ym_core.specs.declared.position.Mode.{Mode}
pub use Rattle.ym_core.specs.declared.position.Mode.TheVariants.{Sent, Waiting}
pub use Rattle.ym_core.specs.declared.position.Position.{Position}
pub use Rattle.ym_core.specs.declared.position.Position.TheVariants.{Block, End, Eot, Header}
pub use Rattle.ym_core.specs.declared.scan.Scan.{Scan}
pub use Rattle.ym_core.specs.declared.scan.Stop.TheVariants.{Cancels}
pub use Rattle.ym_core.specs.declared.stage.OpenFile.{OpenFile}
pub use Rattle.ym_core.specs.declared.stage.Stage.{Stage}
pub use Rattle.ym_core.specs.declared.stage.Stage.TheVariants.{AwaitHeader, InFile}
pub use Rattle.ym_core.specs.declared.standing.Standing.{Standing}
pub use Rattle.ym_core.specs.declared.state.RecvState.{RecvState}
pub use Rattle.ym_core.specs.declared.state.SendState.{SendState}
pub use Rattle.ym_core.specs.declared.state.SendState.TheVariants.{Running}
pub use Rattle.ym_link.specs.Bound.{progress_at, progress_in, receiver_progress, sender_progress_at, steps_taken}
pub use Rattle.ym_link.specs.History.{Asks, ReceiverHears, SenderHears, receiver_more, receiver_none, sender_more, sender_none}
pub use Rattle.ym_link.specs.Deliveries.{receiver_deliveries, receiver_steps, sender_deliveries}
pub use Rattle.ym_link.specs.Delivery.{Taken}
unfoldable pub use Rattle.ym_link.specs.Delivery.{taken}
pub use Rattle.ym_link.specs.FrameAt.{IsFrameAt, IsItemAt}
pub use Rattle.ym_link.specs.Port.{Data, Failed, Seen, Tape, after_write, read_gives, read_leaves}
pub use Rattle.ym_link.specs.ReceiveOver.{Outcome, Receives, ended, heard_in, unheard, unread, unwritten}
pub use Rattle.ym_link.specs.ReceiverInto.{HearsGives, IsOpenFile, IsReceiver, ReceiverParts, called, outcome}
pub use Rattle.ym_link.specs.ReceiverRefines.{Goes, IsSent, KeepsFirst, KeepsOpen, ReceiverRefines, bytes_of, item_of, kept_after, open_at, receiver_at}
pub use Rattle.ym_link.specs.SendOver.{Sends, heard}
pub use Rattle.ym_link.specs.Sender.{IsFilled, IsSender, IsStep, SenderParts, counts, spoken}
pub use Rattle.ym_link.specs.SenderRefines.{Batch, counts_in, cancel_pending_of, mode_of, position_at, position_from, state_of}
pub use Rattle.ym_link.specs.declared.end_fault.EndFault.{EndFault}
pub use Rattle.ym_link.specs.declared.event.Event.{Event}
pub use Rattle.ym_link.specs.declared.port.TheConstants.{DELIVERY_LIMIT}
pub use Rattle.ym_link.specs.declared.port.Wait.{Wait}
pub use Rattle.ym_link.specs.declared.port.Wait.TheVariants.{Within}
