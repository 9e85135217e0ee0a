-- where a receiver asks for C, and that one which runs is never silent
use Rattle.std.proofs.Common.{◌+◌, ◌≡◌, ◌≢◌, List, Bool, true, arith, add-one}
use Rattle.ym_machine.proofs.Names.{Reply, Silence, Confirm, Frame, Piece, frame_before, ReceiverEnd, State, Answer, asks_again, controls, holds_start, receiver_step, CallsForStart, CountersAgree}
use Rattle.ym_machine.proofs.ReceiverSteps.{IsEcho, IsFault, ReceiverStep, confirmation, receiver-step}

-- both replies to a frame hold a C only where one is called for, and are something
record IsReplied {H : Type 0} (frame : Frame H) (reply : Reply) : Type 0 where
  calls : holds_start (controls reply) ≡ true → CallsForStart frame
  speaks : reply ≢ Silence

confirmed : {H : Type 0} (frame : Frame H) → IsReplied frame (confirmation frame)
confirmed (Piece number body) = record { calls = λ w. cc; speaks = λ w. cc }
confirmed _ = record { calls = λ w. tt; speaks = λ w. cc }

asked : {H : Type 0} (frame : Frame H) → IsReplied frame (asks_again frame)
asked (Piece number body) = record { calls = λ w. cc; speaks = λ w. cc }
asked _ = record { calls = λ w. tt; speaks = λ w. cc }

module _ {H : Type 0} (frames : List (Frame H)) (confirm : Confirm) (sink whole : Bool) (st : State) where
  asks : CountersAgree confirm frames st → {answer : Answer} → ReceiverStep frames confirm sink whole st answer → holds_start (controls answer.1) ≡ true → CallsForStart (frame_before frames answer.0.taken)
  asks m (ReceiverStep.stays ended (IsEcho.repeats done sending sent at)) w = cc
  asks m (ReceiverStep.faults running (IsFault.again sending sent other) few) w =
      let a = m.ahead in let at : st.taken ≡ st.acknowledged + 1 = omega arith in rw (at, add-one) ((confirmed _).calls w)
  asks m (ReceiverStep.faults running (IsFault.bad n) few) w = (asked _).calls w
  asks m (ReceiverStep.takes_it fresh other eot) w = let at = fresh.at in rw (at, add-one) ((confirmed _).calls w)
  asks m _ w = cc

  speaks : {answer : Answer} → ReceiverStep frames confirm sink whole st answer → st.receiver ≡ ReceiverEnd.Running → answer.0.receiver ≡ ReceiverEnd.Running → answer.1 ≢ Silence
  speaks (ReceiverStep.stays ended echo) running w = absurd (ended running)
  speaks (ReceiverStep.faults r (IsFault.again sending sent other) few) running w = (confirmed _).speaks
  speaks (ReceiverStep.faults r (IsFault.bad n) few) running w = (asked _).speaks
  speaks (ReceiverStep.takes_it fresh other eot) running w = (confirmed _).speaks
  speaks _ running w = λ e. cc

  pub there-asks : CountersAgree confirm frames st → holds_start (controls (receiver_step frames confirm sink whole st).1) ≡ true → CallsForStart (frame_before frames (receiver_step frames confirm sink whole st).0.taken)
  there-asks m = asks m (receiver-step frames confirm sink whole st)

  pub there-speaks : st.receiver ≡ ReceiverEnd.Running → (receiver_step frames confirm sink whole st).0.receiver ≡ ReceiverEnd.Running → (receiver_step frames confirm sink whole st).1 ≢ Silence
  there-speaks = speaks (receiver-step frames confirm sink whole st)
