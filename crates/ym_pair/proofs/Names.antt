-- The names that the proofs of this crate share, each with where it comes from.
unfoldable pub use Rattle.ym_frame.specs.Frame.{verdict_of}
pub use Rattle.ym_frame.specs.declared.control.Control.{Control}
pub use Rattle.ym_frame.specs.declared.control.Control.TheVariants.{Ack, Can}
pub use Rattle.ym_frame.specs.declared.control.Reply.{Reply}
pub use Rattle.ym_frame.specs.declared.control.Reply.TheVariants.{Silence}
pub use Rattle.ym_frame.specs.declared.frame.Item.{Item}
pub use Rattle.ym_header.specs.Header.{HeaderParts}
pub use Rattle.ym_header.specs.declared.fault.HeaderFault.{HeaderFault}
pub use Rattle.ym_header.specs.declared.reading.Zero.{Zero}
pub use Rattle.ym_header.specs.declared.reading.Zero.TheVariants.{File}
pub use Rattle.ym_file.specs.Kept.{Kept}
pub use Rattle.ym_file.specs.SourceFile.{FileParts, IsFile, counts_of, file_at}
pub use Rattle.ym_file.specs.declared.plan.Shape.{Shape}
pub use Rattle.ym_machine.specs.Frames.{frames_of}
pub use Rattle.ym_machine.specs.Machine.{State, committed, reported, start}
pub use Rattle.ym_machine.specs.Run.{after_turn}
pub use Rattle.ym_machine.specs.declared.confirm.Confirm.{Confirm}
pub use Rattle.ym_machine.specs.declared.confirm.Confirm.TheVariants.{Twice}
pub use Rattle.ym_machine.specs.declared.limits.TheConstants.{BURST, GIVE_UP}
pub use Rattle.ym_core.specs.Position.{IsPosition, count_at, next_of}
pub use Rattle.ym_core.specs.Scan.{controls_in, reads}
pub use Rattle.ym_core.specs.Receiver.{No_call, Receiver, Step, hears_at}
pub use Rattle.ym_core.specs.Standing.{after_fill, after_scan, hears, hears_in, missed, read_through}
pub use Rattle.ym_core.specs.declared.delivery.Heard.{Heard}
pub use Rattle.ym_core.specs.declared.delivery.Heard.TheVariants.{Bad}
pub use Rattle.ym_core.specs.declared.position.Mode.{Mode}
pub use Rattle.ym_core.specs.declared.position.Mode.TheVariants.{Sent, Waiting}
pub use Rattle.ym_core.specs.declared.position.Position.{Position}
pub use Rattle.ym_core.specs.declared.position.Position.TheVariants.{Block, End, Eot, Header}
pub use Rattle.ym_core.specs.declared.scan.Scan.{Scan}
pub use Rattle.ym_core.specs.declared.scan.Stop.{Stop}
pub use Rattle.ym_core.specs.declared.scan.Stop.TheVariants.{Again, Finishes}
pub use Rattle.ym_core.specs.declared.stage.OpenFile.{OpenFile}
pub use Rattle.ym_core.specs.declared.stage.Stage.{Stage}
pub use Rattle.ym_core.specs.declared.stage.Stage.TheVariants.{AwaitHeader, InFile}
pub use Rattle.ym_core.specs.declared.standing.Standing.{Standing}
pub use Rattle.ym_core.specs.declared.state.RecvState.{RecvState}
pub use Rattle.ym_core.specs.declared.state.SendState.{SendState}
pub use Rattle.ym_core.specs.declared.state.SendState.TheVariants.{Finished, Running}
pub use Rattle.ym_link.specs.History.{ReceiverHears, SenderHears, receiver_more, receiver_none, sender_more, sender_none}
pub use Rattle.ym_link.specs.FrameAt.{IsFrameAt}
pub use Rattle.ym_link.specs.Port.{Tape}
pub use Rattle.ym_link.specs.ReceiverInto.{HearsGives, ReceiverParts, called}
pub use Rattle.ym_link.specs.SendOver.{written_for}
pub use Rattle.ym_link.specs.Sender.{IsFilled, IsSender, IsStep, SenderParts, counts, spoken}
pub use Rattle.ym_link.specs.SenderRefines.{Batch}
pub use Rattle.ym_line.specs.Completion.{longest_bad_run}
pub use Rattle.ym_line.specs.Promise.{AreNew}
pub use Rattle.ym_line.specs.Rounds.{Goes, Pair, seen_of, sent_by}
pub use Rattle.ym_line.specs.Turns.{CommitsFirst, PairRefines}
pub use Rattle.ym_line.specs.declared.delivery.Delivery.{Delivery}
pub use Rattle.ym_line.specs.declared.delivery.Delivery.TheVariants.{Lost}
pub use Rattle.ym_line.specs.declared.delivery.Round.{Round}
pub use Rattle.ym_pair.specs.AnyPeer.{AreAcknowledged, AreAmong, block, block_positions, eots, files_positions, positions_before, spelling}
pub use Rattle.ym_pair.specs.Logs.{Answered, Spoke, answered_in, heard_in, last_words, spoke_along, spoke_in}
pub use Rattle.ym_pair.specs.Pairing.{ArrivesBack, ArrivesThere, PairUp, SenderAlone, ends, up_to_start}
