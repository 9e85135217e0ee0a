-- what each step leaves alone
use Rattle.std.proofs.Common.{◌≡◌, ◌≢◌, List, Bool, refl}
use Rattle.ym_machine.proofs.Names.{Control, Confirm, Frame, ReceiverEnd, SenderEnd, State, Answer, KeepsReceiver, KeepsSender, SenderStays, sender_step, receiver_step}
use Rattle.ym_machine.proofs.ReceiverSteps.{ReceiverStep, receiver-step}
use Rattle.ym_machine.proofs.SenderSteps.{SenderStep, sender-step}

module _ {H : Type 0} (frames : List (Frame H)) (st : State) where
  keeps-sender : {confirm : Confirm} {sink whole : Bool} {answer : Answer} → ReceiverStep frames confirm sink whole st answer → KeepsSender st answer.0
  keeps-sender (ReceiverStep.stays ended echo) = assumption
  keeps-sender _ = assumption

  keeps-receiver : {source : Bool} {came : List Control} {new : State} → SenderStep frames source came st new → KeepsReceiver st new
  keeps-receiver (SenderStep.stays cancel_pending ended left) = assumption
  keeps-receiver _ = assumption

  stays-there : {confirm : Confirm} {sink whole : Bool} {answer : Answer} → ReceiverStep frames confirm sink whole st answer → st.receiver ≢ ReceiverEnd.Running → answer.0 ≡ st
  stays-there (ReceiverStep.stays ended echo) e = refl
  stays-there (ReceiverStep.faults running fault few) e = absurd (e running)
  stays-there (ReceiverStep.gives_up running fault many) e = absurd (e running)
  stays-there (ReceiverStep.takes_it fresh other eot) e = absurd (e fresh.receiving)
  stays-there (ReceiverStep.confirms fresh twice eot first) e = absurd (e fresh.receiving)
  stays-there (ReceiverStep.finishes fresh is) e = absurd (e fresh.receiving)
  stays-there (ReceiverStep.breaks fresh failed) e = absurd (e fresh.receiving)
  stays-there (ReceiverStep.is_cancelled running broke) e = absurd (e running)

  stays-back : {source : Bool} {came : List Control} {new : State} → SenderStep frames source came st new → st.sender ≢ SenderEnd.Running → SenderStays st new
  stays-back (SenderStep.stays cancel_pending ended left) e = assumption
  stays-back (SenderStep.retries running vain few) e = absurd (e running)
  stays-back (SenderStep.gives_up running vain many) e = absurd (e running)
  stays-back (SenderStep.waits running is alone other calls) e = absurd (e running)
  stays-back (SenderStep.sends_it running on) e = absurd (e running)
  stays-back (SenderStep.breaks running on failed piece) e = absurd (e running)
  stays-back (SenderStep.finishes running is last) e = absurd (e running)
  stays-back (SenderStep.is_cancelled running cans) e = absurd (e running)

  pub there-keeps : (confirm : Confirm) (sink whole : Bool) → KeepsSender st (receiver_step frames confirm sink whole st).0
  there-keeps confirm sink whole = keeps-sender (receiver-step frames confirm sink whole st)

  pub back-keeps : (source : Bool) (came : List Control) → KeepsReceiver st (sender_step frames source came st)
  back-keeps source came = keeps-receiver (sender-step frames source came st)

  pub there-stays : (confirm : Confirm) (sink whole : Bool) → st.receiver ≢ ReceiverEnd.Running → (receiver_step frames confirm sink whole st).0 ≡ st
  there-stays confirm sink whole ended = stays-there (receiver-step frames confirm sink whole st) ended

  pub back-stays : (source : Bool) (came : List Control) → st.sender ≢ SenderEnd.Running → SenderStays st (sender_step frames source came st)
  back-stays source came ended = stays-back (sender-step frames source came st) ended
