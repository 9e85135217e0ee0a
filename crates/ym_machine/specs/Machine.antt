-- The machine of two counters: what holds of the two ends, whatever was lost or damaged.
use Rattle.std.specs.Prelude.{◌+◌, ◌<◌, ◌≤◌, ◌≡◌, ◌↔◌, ◌⊎◌, List, length, true, false}
use Rattle.ym_machine.specs.declared.confirm.Confirm.{Confirm}
use Rattle.ym_machine.specs.declared.confirm.Confirm.TheVariants.{Twice}
use Rattle.ym_machine.specs.declared.limits.TheConstants.{GIVE_UP}
use Rattle.ym_machine.specs.Frames.{Frame, Piece, Eot, frame_at, frame_before}
pub use Rattle.ym_machine.specs.State.{SenderEnd, ReceiverEnd, State, start, Speech, Nothing, FrameAt, CanCan, said, committed, reported}
pub use Rattle.ym_machine.specs.Steps.{Sound, At, Can, Bad, heard, Answer, receiver_step, sender_step, controls, is_within, KeepsSender, KeepsReceiver, SenderStays}
pub use Rattle.ym_machine.specs.Run.{Turn, after_turn, after_turns, Entry, entry_of, entries_of, IsTurnDamage, IsDamage, NoFailure}
pub use Rattle.ym_machine.specs.RoundsRemaining.{rounds_remaining, rounds_needed}

-- a data block
abbrev pub IsPiece : {H : Type 0} → Frame H → Type 0
IsPiece (Piece number body) = Unit {0}
IsPiece _ = ⊥

-- a C is waited for behind this frame: behind every one but a data block
abbrev pub CallsForStart : {H : Type 0} → Frame H → Type 0
CallsForStart (Piece number body) = ⊥
CallsForStart _ = Unit {0}

-- the two counters and what belongs to them; all but the last two lines hold however the ends have
-- stopped
pub record CountersAgree {H : Type 0} (confirm : Confirm) (frames : List (Frame H)) (st : State) :
    Type 0 where
  pub ahead : (st.taken ≡ st.acknowledged) ⊎ (st.taken ≡ st.acknowledged + 1)
  pub within : st.taken ≤ length frames
  pub waiting : st.sent ≡ false →
      (st.taken ≡ st.acknowledged) × CallsForStart (frame_before frames st.acknowledged)
  pub first_eot : st.first_eot ≡ true →
      (confirm ≡ Twice) × (st.sent ≡ true) × (st.taken ≡ st.acknowledged) ×
      (frame_at frames st.taken ≡ Eot) × (st.taken < length frames)
  pub sender_done : (st.acknowledged ≡ length frames) ↔ (st.sender ≡ SenderEnd.Finished)
  pub receiver_done : (st.taken ≡ length frames) ↔ (st.receiver ≡ ReceiverEnd.Finished)
  pub sender_retries : st.sender ≡ SenderEnd.Running → st.sender_retries < GIVE_UP
  pub receiver_retries : st.receiver ≡ ReceiverEnd.Running → st.receiver_retries < GIVE_UP

-- the sender gave up, or its source failed
abbrev pub SenderBroke : SenderEnd → Type 0
SenderBroke SenderEnd.NoReply = Unit {0}
SenderBroke SenderEnd.SourceFailed = Unit {0}
SenderBroke _ = ⊥

-- the receiver gave up, or its sink failed
abbrev pub ReceiverBroke : ReceiverEnd → Type 0
ReceiverBroke ReceiverEnd.TooManyErrors = Unit {0}
ReceiverBroke ReceiverEnd.SinkFailed = Unit {0}
ReceiverBroke _ = ⊥

-- The invariant: the counters agree, and CAN CAN is to go only of a sender that gave up or whose
-- source failed. How the ends have stopped is else left open: one may be cancelled while the other
-- runs.
pub record Invariant {H : Type 0} (confirm : Confirm) (frames : List (Frame H)) (st : State) :
    Type 0 where
  pub counters : CountersAgree confirm frames st
  pub cancel_pending : st.cancel_pending ≡ true → SenderBroke st.sender

-- How ends that were new have stopped: an end gave up at its tenth delivery without progress, a
-- source failed at a data block, and an end is cancelled only where the other one broke.
pub record EndingsAgree {H : Type 0} (frames : List (Frame H)) (st : State) : Type 0 where
  pub no_reply : st.sender ≡ SenderEnd.NoReply → st.sender_retries ≡ GIVE_UP
  pub source_failed : st.sender ≡ SenderEnd.SourceFailed →
      (st.sent ≡ true) × IsPiece (frame_at frames st.acknowledged)
  pub sender_cancelled : st.sender ≡ SenderEnd.Cancelled → ReceiverBroke st.receiver
  pub too_many_errors : st.receiver ≡ ReceiverEnd.TooManyErrors → st.receiver_retries ≡ GIVE_UP
  pub receiver_cancelled : st.receiver ≡ ReceiverEnd.Cancelled → SenderBroke st.sender
