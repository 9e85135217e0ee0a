-- each step keeps the invariant
use Rattle.std.proofs.Common.{ℕ, ◌+◌, ◌<◌, ◌≡◌, ◌≢◌, List, [], ◌∷◌, length, Bool, true, sym, ap, ◌∙◌, subst, arith, add-one}
use Rattle.ym_machine.proofs.Names.{Control, Confirm, EndsOnce, Eot, Frame, Piece, frame_at, frame_before, ReceiverEnd, SenderEnd, State, start, Answer, KeepsSender, asks_again, controls, is_within, receiver_step, IsDamage, IsTurnDamage, Turn, after_turn, after_turns, came_back, CallsForStart, CountersAgree, Invariant, SenderBroke}
use Rattle.ym_frame.specs.declared.control.Control.TheVariants as control
use Rattle.ym_machine.proofs.Keeps.{there-keeps}
use Rattle.ym_machine.proofs.Positions.{more_behind, none_behind}
use Rattle.ym_machine.proofs.ReceiverSteps.{IsEcho, IsFault, ReceiverStep, receiver-step}
use Rattle.ym_machine.proofs.SenderSteps.{IsAcknowledged, Onward, SenderStep, sender-step}

-- an ACK that can come back tells of a frame that the sender has sent and the receiver has taken
abbrev pub IsHonest : Answer → Type 0
IsHonest answer = (came : List Control) → is_within (control.Ack ∷ came) (controls answer.1) ≡ true → answer.0.sender ≡ SenderEnd.Running → (answer.0.sent ≡ true) × (answer.0.taken ≡ answer.0.acknowledged + 1)

asks-no-ack : {H : Type 0} (frame : Frame H) (came : List Control) → is_within (control.Ack ∷ came) (controls (asks_again frame)) ≡ true → ⊥
asks-no-ack (Piece number body) came w = cc
asks-no-ack _ came w = cc

-- a Running sender has a frame yet
pub below : {H : Type 0} {confirm : Confirm} {frames : List (Frame H)} {st : State} → CountersAgree confirm frames st → st.sender ≡ SenderEnd.Running → st.acknowledged < length frames
below {frames} {st} m running = let open_yet : st.acknowledged ≢ length frames = λ w. let x = m.sender_done.0 w in cc in let w = m.within in let a = m.ahead in omega arith

module _ {H : Type 0} (frames : List (Frame H)) (confirm : Confirm) (ends : EndsOnce frames) where
  module _ (sink whole : Bool) (st : State) (m : CountersAgree confirm frames st) where
    less : st.receiver ≡ ReceiverEnd.Running → st.taken < length frames
    less running = let open_yet : st.taken ≢ length frames = λ w. let x = m.receiver_done.0 w in cc in let w = m.within in omega arith

    receiver-stopped : (end : ReceiverEnd) (retries : ℕ) → st.receiver ≡ ReceiverEnd.Running → end ≢ ReceiverEnd.Running → end ≢ ReceiverEnd.Finished → CountersAgree confirm frames (record st { receiver_retries = retries; receiver = end })
    receiver-stopped end retries running ended other = let below = less running in grind (arith, m, below, ended, other)

    there-counters : {answer : Answer} → ReceiverStep frames confirm sink whole st answer → CountersAgree confirm frames answer.0
    there-counters (ReceiverStep.stays ended echo) = m
    there-counters (ReceiverStep.faults running fault few) = assumption
    there-counters (ReceiverStep.gives_up running fault many) = receiver-stopped ReceiverEnd.TooManyErrors (st.receiver_retries + 1) running (λ w. cc) (λ w. cc)
    there-counters (ReceiverStep.takes_it fresh other eot) =
        let more = more_behind frames st.taken ends (less fresh.receiving) (λ w. other (ap (frame_at frames) (sym fresh.at) ∙ w)) in
        grind (arith, m, fresh, more)
    there-counters (ReceiverStep.confirms fresh twice eot first) =
        let is_eot = ap (frame_at frames) fresh.at ∙ eot in
        let below = less fresh.receiving in
        grind (arith, m, fresh, twice, is_eot, below)
    there-counters (ReceiverStep.finishes fresh is) =
        let last = none_behind frames st.taken ends (less fresh.receiving) (ap (frame_at frames) fresh.at ∙ is) in
        let no_eot : st.first_eot ≡ true → ⊥ = λ w. let x : frame_at frames st.acknowledged ≡ Eot = ap (frame_at frames) (sym fresh.at) ∙ (m.first_eot w).3 in cc in
        grind (arith, m, fresh, last, no_eot)
    there-counters (ReceiverStep.breaks fresh failed) = receiver-stopped ReceiverEnd.SinkFailed st.receiver_retries fresh.receiving (λ w. cc) (λ w. cc)
    there-counters (ReceiverStep.is_cancelled running broke) = receiver-stopped ReceiverEnd.Cancelled st.receiver_retries running (λ w. cc) (λ w. cc)

    there-honest : {answer : Answer} → ReceiverStep frames confirm sink whole st answer → IsHonest answer
    there-honest (ReceiverStep.stays ended (IsEcho.repeats done sending sent at)) came w sender = (sent, at)
    there-honest (ReceiverStep.stays ended (IsEcho.silent n)) came w sender = cc
    there-honest (ReceiverStep.faults running (IsFault.again sending sent other) few) came w sender = (sent, (let a = m.ahead in omega arith))
    there-honest (ReceiverStep.faults running (IsFault.bad n) few) came w sender = absurd (asks-no-ack _ came w)
    there-honest (ReceiverStep.takes_it fresh other eot) came w sender = (fresh.sent, ap (λ n. n + 1) fresh.at)
    there-honest (ReceiverStep.finishes fresh is) came w sender = (fresh.sent, ap (λ n. n + 1) fresh.at)
    there-honest _ came w sender = cc

  module _ (source : Bool) (came : List Control) (st : State) (m : CountersAgree confirm frames st) (told : (rest : List Control) → came ≡ control.Ack ∷ rest → st.sender ≡ SenderEnd.Running → (st.sent ≡ true) × (st.taken ≡ st.acknowledged + 1)) where
    taken_is : {rest : List Control} → IsAcknowledged came rest st → st.sender ≡ SenderEnd.Running → st.taken ≡ st.acknowledged + 1
    taken_is is running = (told _ is.came_is running).1

    no-first : st.taken ≡ st.acknowledged + 1 → st.first_eot ≡ true → ⊥
    no-first at w = let x : st.taken ≡ st.acknowledged = (m.first_eot w).2 in omega arith

    -- where a sender that goes on is
    pub onward : {position : ℕ} → st.sender ≡ SenderEnd.Running → Onward frames came st position → (st.taken ≡ position) × (position < length frames) × (st.first_eot ≡ true → ⊥)
    onward running (Onward.first unsent asked) = ((m.waiting unsent).0, below m running, λ w. let x : st.sent ≡ true = (m.first_eot w).1 in cc)
    onward running (Onward.next is other) = (taken_is is running, more_behind frames st.acknowledged ends (below m running) other, no-first (taken_is is running))

    sender-stopped : (end : SenderEnd) (retries : ℕ) (cancel_pending : Bool) → st.sender ≡ SenderEnd.Running → end ≢ SenderEnd.Running → end ≢ SenderEnd.Finished → CountersAgree confirm frames (record st { sender_retries = retries; sender = end; cancel_pending = cancel_pending })
    sender-stopped end retries cancel_pending running ended other = let less = below m running in grind (arith, m, less, ended, other)

    sent-on : {position : ℕ} (end : SenderEnd) (cancel_pending : Bool) → st.sender ≡ SenderEnd.Running → end ≢ SenderEnd.Finished → Onward frames came st position → CountersAgree confirm frames (record st { acknowledged = position; sent = true; sender_retries = 0; sender = end; cancel_pending = cancel_pending })
    sent-on end cancel_pending running other on = let o = onward running on in grind (arith, m, o, other)

    back-counters : {new : State} → SenderStep frames source came st new → CountersAgree confirm frames new
    back-counters (SenderStep.stays cancel_pending ended left) = assumption
    back-counters (SenderStep.retries running vain few) = assumption
    back-counters (SenderStep.gives_up running vain many) = sender-stopped SenderEnd.NoReply (st.sender_retries + 1) true running (λ w. cc) (λ w. cc)
    back-counters (SenderStep.waits running is alone other calls) =
        let at = taken_is is running in
        let none = no-first at in
        let more = more_behind frames st.acknowledged ends (below m running) other in
        let asks : CallsForStart (frame_before frames (st.acknowledged + 1)) = rw add-one calls in
        grind (arith, m, running, at, none, more, asks)
    back-counters (SenderStep.sends_it running on) = sent-on st.sender st.cancel_pending running (λ w. cc) on
    back-counters (SenderStep.breaks running on failed piece) = sent-on SenderEnd.SourceFailed true running (λ w. cc) on
    back-counters (SenderStep.finishes running is last) =
        let at = taken_is is running in
        let none = no-first at in
        let done = none_behind frames st.acknowledged ends (below m running) last in
        grind (arith, m, is, at, none, done)
    back-counters (SenderStep.is_cancelled running cans) = sender-stopped SenderEnd.Cancelled st.sender_retries st.cancel_pending running (λ w. cc) (λ w. cc)

    -- CAN CAN is to go only of a sender that broke
    back-cancel_pending : {new : State} → SenderStep frames source came st new → (st.cancel_pending ≡ true → SenderBroke st.sender) → new.cancel_pending ≡ true → SenderBroke new.sender
    back-cancel_pending (SenderStep.stays cancel_pending ended left) broke w = broke (left w)
    back-cancel_pending (SenderStep.gives_up running vain many) broke w = tt
    back-cancel_pending (SenderStep.breaks running on failed piece) broke w = tt
    back-cancel_pending (SenderStep.finishes running is last) broke w = absurd (subst SenderBroke running (broke w))
    back-cancel_pending (SenderStep.is_cancelled running cans) broke w = absurd (subst SenderBroke running (broke w))
    back-cancel_pending _ broke w = broke w

  pub there-machine : (sink whole : Bool) (st : State) → Invariant confirm frames st → Invariant confirm frames (receiver_step frames confirm sink whole st).0
  there-machine sink whole st m =
      let keeps : KeepsSender st (receiver_step frames confirm sink whole st).0 = there-keeps frames st confirm sink whole in
      record {
        counters = there-counters sink whole st m.counters (receiver-step frames confirm sink whole st);
        cancel_pending = λ e. subst SenderBroke (sym keeps.sender) (m.cancel_pending (sym keeps.cancel_pending ∙ e));
      }

  -- an ACK that comes back was in the reply
  pub acknowledged-taken : (sink whole : Bool) (came : List Control) (st : State) → Invariant confirm frames st → is_within came (controls (receiver_step frames confirm sink whole st).1) ≡ true
      → (rest : List Control) → came ≡ control.Ack ∷ rest → (receiver_step frames confirm sink whole st).0.sender ≡ SenderEnd.Running
      → ((receiver_step frames confirm sink whole st).0.sent ≡ true) × ((receiver_step frames confirm sink whole st).0.taken ≡ (receiver_step frames confirm sink whole st).0.acknowledged + 1)
  acknowledged-taken sink whole came st m within rest is =
      there-honest sink whole st m.counters (receiver-step frames confirm sink whole st) rest (subst (λ cs. is_within cs (controls (receiver_step frames confirm sink whole st).1) ≡ true) is within)

  pub turn-machine : (turn : Turn) (st : State) → Invariant confirm frames st → IsTurnDamage frames confirm turn st → Invariant confirm frames (after_turn frames confirm turn st)
  turn-machine turn st m damage =
      let answer = receiver_step frames confirm turn.sink_failed turn.whole_there st in
      let mid = there-machine turn.sink_failed turn.whole_there st m in
      let came = came_back turn.back answer.1 in
      let told = acknowledged-taken turn.sink_failed turn.whole_there came st m damage in
      let step = sender-step frames turn.source_failed came answer.0 in
      record {
        counters = back-counters turn.source_failed came answer.0 mid.counters told step;
        cancel_pending = back-cancel_pending turn.source_failed came answer.0 mid.counters told step mid.cancel_pending;
      }

  pub turns-machine : (turns : List Turn) (st : State) → Invariant confirm frames st → IsDamage frames confirm turns st → Invariant confirm frames (after_turns frames confirm turns st)
  turns-machine [] st m damage = m
  turns-machine (turn ∷ turns) st m damage = turns-machine turns (after_turn frames confirm turn st) (turn-machine turn st m damage.0) damage.1

  -- a new machine, whose sender may even be cancelled
  pub start-machine : (sender : SenderEnd) → sender ≢ SenderEnd.Finished → Invariant confirm frames (record start { sender = sender })
  start-machine sender other = let some = ends.some in grind (arith, some, other)
