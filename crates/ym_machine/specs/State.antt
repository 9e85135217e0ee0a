-- What the machine knows of the two ends: a counter for each, and how they stand.
use Rattle.std.specs.Prelude.{ℕ, List, Bool, true, false}
use Rattle.ym_machine.specs.Frames.{File, files_within}

-- how the sender stands
pub data SenderEnd : Type 0 where
  Running : SenderEnd
  Finished : SenderEnd  -- the end block was acknowledged
  Cancelled : SenderEnd  -- it heard CAN CAN
  NoReply : SenderEnd  -- it gave up
  SourceFailed : SenderEnd

-- how the receiver stands
pub data ReceiverEnd : Type 0 where
  Running : ReceiverEnd
  Finished : ReceiverEnd  -- it took the end block
  Cancelled : ReceiverEnd  -- it heard CAN CAN
  TooManyErrors : ReceiverEnd  -- it gave up
  SinkFailed : ReceiverEnd

pub record State : Type 0 where
  pub acknowledged : ℕ  -- s: frames that the sender counts as acknowledged
  pub taken : ℕ  -- r: frames that the receiver has taken
  pub sent : Bool  -- the sender has sent F[s]; else it waits for C
  pub first_eot : Bool  -- e: a first EOT was accepted
  pub sender_retries : ℕ  -- the sender's deliveries without progress, in a row
  pub receiver_retries : ℕ  -- the receiver's
  pub sender : SenderEnd
  pub cancel_pending : Bool  -- CAN CAN is still to go
  pub receiver : ReceiverEnd

abbrev pub start : State
start = record {
  acknowledged = 0;
  taken = 0;
  sent = false;
  first_eot = false;
  sender_retries = 0;
  receiver_retries = 0;
  sender = SenderEnd.Running;
  cancel_pending = false;
  receiver = ReceiverEnd.Running;
}

-- what the sender has to send
pub data Speech : Type 0 where
  Nothing : Speech
  FrameAt : ℕ → Speech  -- the frame at this place of the list
  CanCan : Speech

-- the frame where it stands, once it has sent it; CAN CAN after it gave up or its source failed,
-- once
abbrev pub said_by : SenderEnd → Bool → Bool → ℕ → Speech
said_by SenderEnd.Running true cancel_pending position = FrameAt position
said_by SenderEnd.NoReply sent true position = CanCan
said_by SenderEnd.SourceFailed sent true position = CanCan
said_by _ _ _ _ = Nothing

abbrev pub said : State → Speech
said st = said_by st.sender st.sent st.cancel_pending st.acknowledged

-- the files that the receiver has committed: those whose EOT it has taken
abbrev pub committed : {H : Type 0} → List (File H) → State → List (File H)
committed files st = files_within files st.taken

-- the files that the sender reports as done: those whose EOT it counts as acknowledged
abbrev pub reported : {H : Type 0} → List (File H) → State → List (File H)
reported files st = files_within files st.acknowledged
