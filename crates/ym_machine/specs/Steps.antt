-- A round, in its two steps: the receiver hears and replies, and the sender hears what comes back.
--
-- Of the tables the lines that have a section of the reference beside them come from there, and
-- this profile chose the others.
use Rattle.std.specs.Prelude.{ℕ, ◌+◌, ◌≡◌, ◌==◌, ◌⊎◌, nat_lt, List, [], ◌∷◌, filter_map, Bool, true, false, if◌then◌else◌}
use Rattle.ym_frame.specs.Control.{control_at, reply_bytes}
use Rattle.ym_frame.specs.declared.control.Control.{Control}
use Rattle.ym_frame.specs.declared.control.Control.TheVariants as control
use Rattle.ym_frame.specs.declared.control.Reply.{Reply}
use Rattle.ym_frame.specs.declared.control.Reply.TheVariants.{Silence, Start, Ack, AckStart, Nak, Cancel}
use Rattle.ym_machine.specs.declared.confirm.Confirm.{Confirm}
use Rattle.ym_machine.specs.declared.confirm.Confirm.TheVariants.{Twice, Once}
use Rattle.ym_machine.specs.declared.limits.TheConstants.{GIVE_UP}
use Rattle.ym_machine.specs.Frames.{Frame, BlockZero, Piece, Eot, EndBlock, frame_at, frame_before}
use Rattle.ym_machine.specs.State.{SenderEnd, ReceiverEnd, State, Speech, FrameAt, CanCan, said}

-- what the receiver hears
pub data Sound : Type 0 where
  At : ℕ → Sound  -- the frame at this position
  Can : Sound
  Bad : Sound  -- no frame

-- of what the sender said, where the delivery is whole or not
abbrev pub heard : Bool → Speech → Sound
heard true (FrameAt position) = At position
heard true CanCan = Can
heard _ _ = Bad

-- the state after the receiver step, and the reply
abbrev pub Answer : Type 0
Answer = State × Reply

-- a delivery that brings the receiver no progress: at the last of so many in a row it gives up
-- (reference, "XMODEM Protocol Overview": errors are retried 10 times)
abbrev pub nothing_taken : State → Reply → Answer
nothing_taken st reply =
    if nat_lt (st.receiver_retries + 1) GIVE_UP
    then (record st { receiver_retries = st.receiver_retries + 1 }, reply)
    else (
      record st
          { receiver_retries = st.receiver_retries + 1; receiver = ReceiverEnd.TooManyErrors },
      Cancel,
    )

-- a frame is taken, unless the sink failed
abbrev pub takes : State → Reply → Bool → Answer
takes st reply false =
    (record st { taken = st.taken + 1; first_eot = false; receiver_retries = 0 }, reply)
takes st reply true = (record st { receiver = ReceiverEnd.SinkFailed }, Cancel)

-- what a Running receiver answers to no frame, by F[r-1]: NAK behind a data block, else C; before
-- F[0] stands the end block
abbrev pub asks_again : {H : Type 0} → Frame H → Reply
asks_again (Piece number body) = Nak
asks_again _ = Start

-- what a Running receiver meets in its step
pub record Meeting : Type 0 where
  pub state : State  -- before it
  pub confirm : Confirm
  pub sink_failed : Bool  -- the truth whether the sink fails, where the receiver calls it

-- what a Running receiver hears, by its own count of frames
pub data Cue (H : Type 0) : Type 0 where
  Next : Frame H → Cue H  -- F[r]
  Last : Frame H → Cue H  -- F[r-1] once more
  CallOff : Cue H  -- CAN CAN
  NoFrame : Frame H → Cue H  -- no frame, behind F[r-1]

-- The table of a Running receiver: how it confirms, and what it hears; then what changes, and the
-- reply. (reference: a data block is answered with ACK, and a repeated one too, "XMODEM Protocol
-- Overview"; a block 0 with ACK and then C, and the end block with ACK, "YMODEM Batch File
-- Transmission"; that Twice wants an EOT two times, and a C behind its ACK, is this profile's)
abbrev pub row : {H : Type 0} → Meeting → Confirm → Cue H → Answer
row at _ (Next (BlockZero header)) = takes at.state AckStart at.sink_failed
row at _ (Next (Piece number body)) = takes at.state Ack at.sink_failed
row at Twice (Next Eot) =
    if at.state.first_eot then takes at.state AckStart at.sink_failed
    else (record at.state { first_eot = true; receiver_retries = 0 }, Nak)
row at Once (Next Eot) = takes at.state AckStart at.sink_failed
row at _ (Next EndBlock) =
    (record at.state { taken = at.state.taken + 1; receiver = ReceiverEnd.Finished }, Ack)
row at _ (Last (BlockZero header)) = nothing_taken at.state AckStart
row at _ (Last (Piece number body)) = nothing_taken at.state Ack
row at _ (Last Eot) = nothing_taken at.state AckStart
row at _ (Last EndBlock) = nothing_taken at.state Start  -- never: it finished at the end block
row at _ CallOff = (record at.state { receiver = ReceiverEnd.Cancelled }, Silence)
row at _ (NoFrame last) = nothing_taken at.state (asks_again last)

-- its row: where the invariant holds, a frame that is not F[r] is F[r-1]
abbrev pub running : {H : Type 0} → List (Frame H) → Sound → Meeting → Answer
running frames (At i) at =
    if i == at.state.taken then row at at.confirm (Next (frame_at frames i))
    else row at at.confirm (Last (frame_at frames i))
running {H} frames Can at = row {H = H} at at.confirm CallOff
running frames Bad at = row at at.confirm (NoFrame (frame_before frames at.state.taken))

-- a Finished receiver answers its last frame, and nothing else
abbrev pub finished_hears : Sound → State → Answer
finished_hears (At i) st = (st, if i + 1 == st.taken then Ack else Silence)
finished_hears _ st = (st, Silence)

-- every other ended receiver is silent
abbrev pub answers : {H : Type 0} → List (Frame H) → Sound → ReceiverEnd → Meeting → Answer
answers frames sound ReceiverEnd.Running at = running frames sound at
answers frames sound ReceiverEnd.Finished at = finished_hears sound at.state
answers frames sound _ at = (at.state, Silence)

-- the receiver step: with the truth whether the sink failed, and whether the delivery is whole
abbrev pub receiver_step : {H : Type 0} → List (Frame H) → Confirm → Bool → Bool → State → Answer
receiver_step frames confirm sink_failed whole st =
    answers frames (heard whole (said st)) st.receiver (record {
      state = st;
      confirm = confirm;
      sink_failed = sink_failed;
    })

-- the control bytes of a reply
abbrev pub controls : Reply → List Control
controls reply = filter_map control_at (reply_bytes reply)

-- a delivery that brings the sender no progress: at the last of so many in a row it gives up, with
-- CAN CAN to go
abbrev pub nothing_gained : State → State
nothing_gained st =
    if nat_lt (st.sender_retries + 1) GIVE_UP
    then record st { sender_retries = st.sender_retries + 1 }
    else record st {
      sender_retries = st.sender_retries + 1;
      sender = SenderEnd.NoReply;
      cancel_pending = true;
    }

-- the frame at a position becomes the sent one; a data block is filled from the source, which may
-- fail
abbrev pub sends : {H : Type 0} → Bool → Frame H → ℕ → State → State
sends true (Piece number body) position st =
    record st {
      acknowledged = position;
      sent = true;
      sender_retries = 0;
      sender = SenderEnd.SourceFailed;
      cancel_pending = true;
    }
sends _ _ position st = record st { acknowledged = position; sent = true; sender_retries = 0 }

-- F[s] is acknowledged: behind a data block the next frame is sent at once, behind a block 0 or an
-- EOT where a C follows
abbrev pub acknowledged_at : {H : Type 0} → List (Frame H) → Bool → Bool → Frame H → State → State
acknowledged_at frames source_failed start_follows (Piece number body) st =
    sends source_failed (frame_at frames (st.acknowledged + 1)) (st.acknowledged + 1) st
acknowledged_at frames source_failed start_follows EndBlock st =
    record st { acknowledged = st.acknowledged + 1; sender = SenderEnd.Finished }
acknowledged_at frames source_failed start_follows _ st =
    if start_follows
    then sends source_failed (frame_at frames (st.acknowledged + 1)) (st.acknowledged + 1) st
    else record st { acknowledged = st.acknowledged + 1; sent = false; sender_retries = 0 }

-- a C is among these
abbrev pub holds_start : List Control → Bool
holds_start [] = false
holds_start (control.Start ∷ came) = true
holds_start (_ ∷ came) = holds_start came

-- a Running sender, which has sent or waits, gets these control bytes (reference, "Graceful Abort":
-- two CAN in a row cancel, one does not; this profile: C never acknowledges)
abbrev pub running_gets : {H : Type 0} → List (Frame H) → Bool → Bool → List Control → State → State
running_gets frames source_failed sent (control.Can ∷ control.Can ∷ []) st =
    record st { sender = SenderEnd.Cancelled }
running_gets frames source_failed true (control.Ack ∷ came) st =
    acknowledged_at frames source_failed (holds_start came) (frame_at frames st.acknowledged) st
running_gets frames source_failed true _ st = nothing_gained st
running_gets frames source_failed false came st =
    if holds_start came
    then sends source_failed (frame_at frames st.acknowledged) st.acknowledged st
    else nothing_gained st

-- CAN CAN goes once, and every other ended sender stays
abbrev pub gets : {H : Type 0} → List (Frame H) → Bool → List Control → SenderEnd → State → State
gets frames source_failed came SenderEnd.Running st =
    running_gets frames source_failed st.sent came st
gets frames source_failed came SenderEnd.NoReply st = record st { cancel_pending = false }
gets frames source_failed came SenderEnd.SourceFailed st = record st { cancel_pending = false }
gets frames source_failed came _ st = st

-- the sender step: with the truth whether the source failed, and the control bytes that came
abbrev pub sender_step : {H : Type 0} → List (Frame H) → Bool → List Control → State → State
sender_step frames source_failed came st = gets frames source_failed came st.sender st

abbrev pub same_control : Control → Control → Bool
same_control control.Ack control.Ack = true
same_control control.Nak control.Nak = true
same_control control.Start control.Start = true
same_control control.Can control.Can = true
same_control _ _ = false

-- the first list is the second with some of its elements left out
abbrev pub is_within : List Control → List Control → Bool
is_within [] reply = true
is_within (c ∷ came) [] = false
is_within (c ∷ came) (r ∷ reply) =
    if same_control c r then is_within came reply else is_within (c ∷ came) reply

-- all that can come back of a reply: nothing, C, ACK, ACK C, NAK, CAN or CAN CAN
abbrev pub IsRemnant : List Control → Type 0
IsRemnant came =
    (came ≡ []) ⊎ (came ≡ control.Start ∷ []) ⊎ (came ≡ control.Ack ∷ []) ⊎
    (came ≡ control.Ack ∷ control.Start ∷ []) ⊎
    (came ≡ control.Nak ∷ []) ⊎ (came ≡ control.Can ∷ []) ⊎ (came ≡ control.Can ∷ control.Can ∷ [])

-- the byte of a control
abbrev pub control_byte : Control → ℕ
control_byte control.Ack = 0x06
control_byte control.Nak = 0x15
control_byte control.Start = 0x43
control_byte control.Can = 0x18

-- the receiver step keeps what is the sender's
pub record KeepsSender (old new : State) : Type 0 where
  pub sender : new.sender ≡ old.sender
  pub acknowledged : new.acknowledged ≡ old.acknowledged
  pub sent : new.sent ≡ old.sent
  pub sender_retries : new.sender_retries ≡ old.sender_retries
  pub cancel_pending : new.cancel_pending ≡ old.cancel_pending

-- a sender that has ended stays; what it still has to say is all that changes
pub record SenderStays (old new : State) : Type 0 where
  pub sender : new.sender ≡ old.sender
  pub acknowledged : new.acknowledged ≡ old.acknowledged
  pub sent : new.sent ≡ old.sent
  pub sender_retries : new.sender_retries ≡ old.sender_retries

-- the sender step keeps what is the receiver's
pub record KeepsReceiver (old new : State) : Type 0 where
  pub receiver : new.receiver ≡ old.receiver
  pub taken : new.taken ≡ old.taken
  pub first_eot : new.first_eot ≡ old.first_eot
  pub receiver_retries : new.receiver_retries ≡ old.receiver_retries

-- ---- The table by its parts, for proofs that take it apart

-- a Running receiver hears F[r]
abbrev pub hears_next : {H : Type 0} → Confirm → Bool → Frame H → State → Answer
hears_next confirm sink_failed frame st =
    row (record { state = st; confirm = confirm; sink_failed = sink_failed }) confirm (Next frame)

-- F[r-1] once more, where neither its confirmation nor its sink plays a part
abbrev pub hears_last : {H : Type 0} → Frame H → State → Answer
hears_last frame st =
    row (record { state = st; confirm = Once; sink_failed = false }) Once (Last frame)

abbrev pub running_hears : {H : Type 0} → List (Frame H) → Confirm → Bool → Sound → State → Answer
running_hears frames confirm sink_failed sound st =
    running frames sound (record { state = st; confirm = confirm; sink_failed = sink_failed })

-- a receiver that stands so
abbrev pub hears :
    {H : Type 0} → List (Frame H) → Confirm → Bool → Sound → ReceiverEnd → State → Answer
hears frames confirm sink_failed sound end st =
    answers frames sound end (record { state = st; confirm = confirm; sink_failed = sink_failed })
