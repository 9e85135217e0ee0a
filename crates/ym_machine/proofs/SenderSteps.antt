-- every sender step is one of eight
use Rattle.std.proofs.Common.{ℕ, ◌+◌, ◌<◌, ◌≤◌, ◌≡◌, ◌≢◌, List, [], ◌∷◌, Bool, true, false, refl, sym, ap, ◌∙◌, subst, arith, nat_lt}
use Rattle.std.proofs.lemmas.Bool.Decides.{nat_tests}
use Rattle.ym_machine.proofs.Names.{Control, GIVE_UP, EndBlock, Frame, Piece, frame_at, SenderEnd, State, sender_step, holds_start, CallsForStart}
use Rattle.ym_frame.specs.declared.control.Control.TheVariants as control
use Rattle.ym_machine.proofs.ReceiverSteps.{on_cond}
use Rattle.ym_machine.specs.Steps.{acknowledged_at, gets, nothing_gained, running_gets, sends}
use Rattle.ym_machine.specs.Machine.{IsPiece}

-- these control bytes bring a sender, which has sent or waits, a step further
abbrev pub helps : Bool → List Control → Bool
helps true (control.Ack ∷ came) = true
helps true _ = false
helps false came = holds_start came

-- F[s] is acknowledged, and what came behind its ACK
pub record IsAcknowledged (came rest : List Control) (st : State) : Type 0 where
  pub sent : st.sent ≡ true
  pub came_is : came ≡ control.Ack ∷ rest

-- the frame at this position is to be sent: it was waited for, or the frame before it is acknowledged
pub data Onward {H : Type 0} (frames : List (Frame H)) (came : List Control) (st : State) : ℕ → Type 0 where
  first : st.sent ≡ false → holds_start came ≡ true → Onward frames came st st.acknowledged
  next : {rest : List Control} → IsAcknowledged came rest st → frame_at frames st.acknowledged ≢ EndBlock → Onward frames came st (st.acknowledged + 1)

pub data SenderStep {H : Type 0} (frames : List (Frame H)) (source : Bool) (came : List Control) (st : State) : State → Type 0 where
  stays : (cancel_pending : Bool) → st.sender ≢ SenderEnd.Running → (cancel_pending ≡ true → st.cancel_pending ≡ true) → SenderStep frames source came st (record st { cancel_pending = cancel_pending })
  retries : st.sender ≡ SenderEnd.Running → helps st.sent came ≡ false → st.sender_retries + 1 < GIVE_UP → SenderStep frames source came st (record st { sender_retries = st.sender_retries + 1 })
  gives_up : st.sender ≡ SenderEnd.Running → helps st.sent came ≡ false → GIVE_UP ≤ st.sender_retries + 1 → SenderStep frames source came st (record st { sender_retries = st.sender_retries + 1; sender = SenderEnd.NoReply; cancel_pending = true })
  waits : {rest : List Control} → st.sender ≡ SenderEnd.Running → IsAcknowledged came rest st → holds_start rest ≡ false → frame_at frames st.acknowledged ≢ EndBlock → CallsForStart (frame_at frames st.acknowledged) → SenderStep frames source came st (record st { acknowledged = st.acknowledged + 1; sent = false; sender_retries = 0 })
  sends_it : {position : ℕ} → st.sender ≡ SenderEnd.Running → Onward frames came st position → SenderStep frames source came st (record st { acknowledged = position; sent = true; sender_retries = 0 })
  breaks : {position : ℕ} → st.sender ≡ SenderEnd.Running → Onward frames came st position → source ≡ true → IsPiece (frame_at frames position) → SenderStep frames source came st (record st { acknowledged = position; sent = true; sender_retries = 0; sender = SenderEnd.SourceFailed; cancel_pending = true })
  finishes : {rest : List Control} → st.sender ≡ SenderEnd.Running → IsAcknowledged came rest st → frame_at frames st.acknowledged ≡ EndBlock → SenderStep frames source came st (record st { acknowledged = st.acknowledged + 1; sender = SenderEnd.Finished })
  is_cancelled : st.sender ≡ SenderEnd.Running → came ≡ control.Can ∷ control.Can ∷ [] → SenderStep frames source came st (record st { sender = SenderEnd.Cancelled })

module _ {H : Type 0} (frames : List (Frame H)) (source : Bool) (came : List Control) (st : State) where
  abbrev pub Steps : State → Type 0
  Steps new = SenderStep frames source came st new

  missed : st.sender ≡ SenderEnd.Running → helps st.sent came ≡ false → Steps (nothing_gained st)
  missed running vain = on_cond Steps (nat_lt (st.sender_retries + 1) GIVE_UP) _ _ (λ e. retries running vain (grind (arith, nat_tests))) (λ e. gives_up running vain (grind (arith, nat_tests)))

  sent_on : st.sender ≡ SenderEnd.Running → (position : ℕ) → Onward frames came st position → (failed : Bool) → source ≡ failed → (frame : Frame H) → frame_at frames position ≡ frame → Steps (sends failed frame position st)
  sent_on running position on true s (Piece number body) e = breaks running on s (subst IsPiece (sym e) tt)
  sent_on running position on _ s _ e = sends_it running on

  on : st.sender ≡ SenderEnd.Running → {rest : List Control} → IsAcknowledged came rest st → {frame : Frame H} → frame_at frames st.acknowledged ≡ frame → frame ≢ EndBlock
      → Steps (sends source (frame_at frames (st.acknowledged + 1)) (st.acknowledged + 1) st)
  on running is e other = sent_on running (st.acknowledged + 1) (next is (λ w. other (sym e ∙ w))) source refl _ refl

  acked : st.sender ≡ SenderEnd.Running → (rest : List Control) → IsAcknowledged came rest st → (frame : Frame H) → frame_at frames st.acknowledged ≡ frame
      → Steps (acknowledged_at frames source (holds_start rest) frame st)
  acked running rest is (Piece number body) e = on running is e (λ w. cc)
  acked running rest is EndBlock e = finishes running is e
  acked running rest is _ e = on_cond Steps (holds_start rest) _ _ (λ _. on running is e (λ w. cc)) (λ c. waits running is c (λ w. cc) (subst CallsForStart (sym e) tt))

  gets_it : st.sender ≡ SenderEnd.Running → (sent : Bool) → st.sent ≡ sent → (cs : List Control) → came ≡ cs → Steps (running_gets frames source sent cs st)
  gets_it running _ e (control.Can ∷ control.Can ∷ []) f = is_cancelled running f
  gets_it running true e (control.Ack ∷ rest) f = acked running rest (record { sent = e; came_is = f }) (frame_at frames st.acknowledged) refl
  gets_it running true e _ f = missed running (rw (e, f) refl)
  gets_it running false e cs f = on_cond Steps (holds_start cs) _ _ (λ t. sent_on running st.acknowledged (first e (ap holds_start f ∙ t)) source refl _ refl) (λ t. missed running (rw (e, f) t))

  by : (sender : SenderEnd) → st.sender ≡ sender → Steps (gets frames source came sender st)
  by SenderEnd.Running e = gets_it e st.sent refl came refl
  by SenderEnd.NoReply e = stays false (λ r. cc) (λ w. cc)
  by SenderEnd.SourceFailed e = stays false (λ r. cc) (λ w. cc)
  by _ e = stays st.cancel_pending (λ r. cc) (λ w. w)

  pub sender-step : Steps (sender_step frames source came st)
  sender-step = by st.sender refl
