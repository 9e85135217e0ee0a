-- how the ends stop
use Rattle.std.proofs.Common.{◌≡◌, ◌≢◌, List, [], ◌∷◌, Bool, true, refl, subst, arith}
use Rattle.ym_machine.proofs.Names.{Control, Reply, Cancel, Confirm, EndsOnce, Frame, Piece, ReceiverEnd, State, start, Answer, asks_again, controls, is_within, receiver_step, IsDamage, IsTurnDamage, Turn, after_turn, after_turns, came_back, ReceiverGoes, CountersAgree, Invariant}
use Rattle.ym_frame.specs.declared.control.Control.TheVariants as control
use Rattle.ym_machine.proofs.MachineStates.{there-machine, turn-machine}
use Rattle.ym_machine.proofs.ReceiverSteps.{IsEcho, IsFault, ReceiverStep, confirmation, receiver-step}
use Rattle.ym_machine.proofs.SenderSteps.{SenderStep, sender-step}
use Rattle.ym_machine.specs.Machine.{EndingsAgree, ReceiverBroke}

-- two CAN come only from CAN CAN
pub cancel-honest : (reply : Reply) → is_within (control.Can ∷ control.Can ∷ []) (controls reply) ≡ true → reply ≡ Cancel
cancel-honest Cancel w = refl
cancel-honest _ w = cc

no-cancel : {H : Type 0} (frame : Frame H) → (confirmation frame ≢ Cancel) × (asks_again frame ≢ Cancel)
no-cancel (Piece number body) = (λ w. cc, λ w. cc)
no-cancel _ = (λ w. cc, λ w. cc)

-- a fault is no reason to cancel
pub fault-no-cancel : {H : Type 0} (frames : List (Frame H)) (whole : Bool) (st : State) (reply : Reply) → IsFault frames whole st reply → reply ≢ Cancel
fault-no-cancel frames whole st _ (IsFault.again sending sent other) = (no-cancel _).0
fault-no-cancel frames whole st _ (IsFault.bad n) = (no-cancel _).1

goes-unbroken : (end : ReceiverEnd) → ReceiverGoes end → ReceiverBroke end → ⊥
goes-unbroken end goes broke = grind arith

module _ {H : Type 0} (frames : List (Frame H)) (confirm : Confirm) (sink whole : Bool) (st : State) where
  -- CAN CAN is the reply of a receiver that broke
  cancels : {answer : Answer} → ReceiverStep frames confirm sink whole st answer → answer.1 ≡ Cancel → ReceiverBroke answer.0.receiver
  cancels (ReceiverStep.stays ended (IsEcho.repeats done sending sent at)) w = cc
  cancels (ReceiverStep.faults running fault few) w = absurd (fault-no-cancel frames whole st _ fault w)
  cancels (ReceiverStep.gives_up running fault many) w = tt
  cancels (ReceiverStep.takes_it fresh other eot) w = absurd ((no-cancel _).0 w)
  cancels (ReceiverStep.breaks fresh failed) w = tt
  cancels _ w = cc

  -- so no CAN CAN comes back of a receiver that goes
  pub no-cans : ReceiverGoes (receiver_step frames confirm sink whole st).0.receiver → (came : List Control) → is_within came (controls (receiver_step frames confirm sink whole st).1) ≡ true → came ≢ control.Can ∷ control.Can ∷ []
  no-cans goes came within cans =
      let broke = cancels (receiver-step frames confirm sink whole st) (cancel-honest (receiver_step frames confirm sink whole st).1 (rw cans at within)) in
      goes-unbroken (receiver_step frames confirm sink whole st).0.receiver goes broke

module _ {H : Type 0} (frames : List (Frame H)) (confirm : Confirm) where
  module _ (sink whole : Bool) (st : State) (m : CountersAgree confirm frames st) (e : EndingsAgree frames st) where
    there-endings : {answer : Answer} → ReceiverStep frames confirm sink whole st answer → EndingsAgree frames answer.0
    there-endings (ReceiverStep.stays ended echo) = e
    there-endings (ReceiverStep.faults running fault few) = grind (arith, e, running)
    there-endings (ReceiverStep.gives_up running fault many) = grind (arith, e, m, running, many)
    there-endings (ReceiverStep.takes_it fresh other eot) = grind (arith, e, fresh)
    there-endings (ReceiverStep.confirms fresh twice eot first) = grind (arith, e, fresh)
    there-endings (ReceiverStep.finishes fresh is) = grind (arith, e, fresh)
    there-endings (ReceiverStep.breaks fresh failed) = grind (arith, e, fresh)
    there-endings (ReceiverStep.is_cancelled running broke) = grind (arith, e, running, broke)

  module _ (source : Bool) (came : List Control) (st : State) (m : CountersAgree confirm frames st) (e : EndingsAgree frames st) (cancelled : came ≡ control.Can ∷ control.Can ∷ [] → ReceiverBroke st.receiver) where
    back-endings : {new : State} → SenderStep frames source came st new → EndingsAgree frames new
    back-endings (SenderStep.stays cancel_pending ended left) = assumption
    back-endings (SenderStep.retries running vain few) = grind (arith, e, running)
    back-endings (SenderStep.gives_up running vain many) = grind (arith, e, m, running, many)
    back-endings (SenderStep.waits running is alone other calls) = grind (arith, e, running)
    back-endings (SenderStep.sends_it running on) = grind (arith, e, running)
    back-endings (SenderStep.breaks running on failed piece) = grind (arith, e, running, piece)
    back-endings (SenderStep.finishes running is last) = grind (arith, e, running)
    back-endings (SenderStep.is_cancelled running cans) = let broke = cancelled cans in grind (arith, e, running, broke)

  pub half-there : (sink whole : Bool) (st : State) → Invariant confirm frames st → EndingsAgree frames st → EndingsAgree frames (receiver_step frames confirm sink whole st).0
  half-there sink whole st m e = there-endings sink whole st m.counters e (receiver-step frames confirm sink whole st)

  module _ (once : EndsOnce frames) where
    pub turn-endings : (turn : Turn) (st : State) → Invariant confirm frames st → EndingsAgree frames st → IsTurnDamage frames confirm turn st → EndingsAgree frames (after_turn frames confirm turn st)
    turn-endings turn st m e damage =
        let answer = receiver_step frames confirm turn.sink_failed turn.whole_there st in
        let came = came_back turn.back answer.1 in
        let mid = there-machine frames confirm once turn.sink_failed turn.whole_there st m in
        let step = receiver-step frames confirm turn.sink_failed turn.whole_there st in
        back-endings turn.source_failed came answer.0 mid.counters (there-endings turn.sink_failed turn.whole_there st m.counters e step)
        (λ cans. cancels frames confirm turn.sink_failed turn.whole_there st step (cancel-honest answer.1 (subst (λ cs. is_within cs (controls answer.1) ≡ true) cans damage)))
        (sender-step frames turn.source_failed came answer.0)

    pub turns-endings : (turns : List Turn) (st : State) → Invariant confirm frames st → EndingsAgree frames st → IsDamage frames confirm turns st → EndingsAgree frames (after_turns frames confirm turns st)
    turns-endings [] st m e damage = e
    turns-endings (turn ∷ turns) st m e damage =
        turns-endings turns (after_turn frames confirm turn st) (turn-machine frames confirm once turn st m damage.0) (turn-endings turn st m e damage.0) damage.1

pub start-endings : {H : Type 0} (frames : List (Frame H)) → EndingsAgree frames start
start-endings frames = record { no_reply = λ e. cc; source_failed = λ e. cc; sender_cancelled = λ e. cc; too_many_errors = λ e. cc; receiver_cancelled = λ e. cc }
