-- Where the machine stands while no bad run is longer than a burst.
use Rattle.std.specs.Prelude.{ℕ, ◌+◌, ◌≤◌, ◌≡◌, ◌⊎◌, List, true, false}
use Rattle.ym_machine.specs.declared.confirm.Confirm.{Confirm}
use Rattle.ym_machine.specs.declared.confirm.Confirm.TheVariants.{Twice}
use Rattle.ym_machine.specs.declared.limits.TheConstants.{BURST}
use Rattle.ym_machine.specs.Frames.{Frame, Eot, frame_at}
use Rattle.ym_machine.specs.Machine.{Invariant}
use Rattle.ym_machine.specs.RoundsRemaining.{IsGoing}
use Rattle.ym_machine.specs.State.{SenderEnd, ReceiverEnd, State}

-- the next whole round brings the sender nothing: a first EOT is accepted
pub record SenderIdle {H : Type 0} (confirm : Confirm) (frames : List (Frame H)) (st : State) :
    Type 0 where
  pub twice : confirm ≡ Twice
  pub sent : st.sent ≡ true
  pub at : st.taken ≡ st.acknowledged
  pub eot : frame_at frames st.acknowledged ≡ Eot
  pub first : st.first_eot ≡ false

-- the next whole round brings the receiver nothing
abbrev pub ReceiverIdle : State → Type 0
ReceiverIdle st = (st.sent ≡ false) ⊎ (st.taken ≡ st.acknowledged + 1)

-- What holds while no bad run is longer than a burst: b rounds of the present one are over. An end
-- that the next whole round brings nothing has no more retries than those, and any other one a
-- burst and one more.
pub record IsFine {H : Type 0} (confirm : Confirm) (frames : List (Frame H)) (b : ℕ) (st : State) :
    Type 0 where
  pub machine : Invariant confirm frames st
  pub going : IsGoing st
  pub sender_retries : st.sender ≡ SenderEnd.Running → st.sender_retries ≤ b + (BURST + 1)
  pub sender_idle : st.sender ≡ SenderEnd.Running → SenderIdle confirm frames st →
      st.sender_retries ≤ b
  pub receiver_retries : st.receiver ≡ ReceiverEnd.Running → st.receiver_retries ≤ b + (BURST + 1)
  pub receiver_idle : st.receiver ≡ ReceiverEnd.Running → ReceiverIdle st → st.receiver_retries ≤ b
