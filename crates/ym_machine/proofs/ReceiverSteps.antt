-- every receiver step is one of eight
use Rattle.std.proofs.Common.{◌+◌, ◌<◌, ◌≤◌, ◌≡◌, ◌≢◌, ◌==◌, List, Bool, true, false, refl, sym, ◌∙◌, subst, arith, cond, nat_lt}
use Rattle.std.proofs.lemmas.Bool.Decides.{nat_tests}
use Rattle.ym_machine.proofs.Names.{Reply, Silence, Start, Ack, AckStart, Nak, Cancel, Confirm, Twice, GIVE_UP, EndBlock, Eot, Frame, Piece, frame_at, frame_before, ReceiverEnd, SenderEnd, State, said, Answer, asks_again, receiver_step, SenderBroke}
use Rattle.ym_machine.specs.declared.confirm.Confirm.TheVariants.{Once}
use Rattle.ym_machine.specs.State.{said_by}
use Rattle.ym_machine.specs.Steps.{At, Bad, Can, Sound, heard, hears, hears_last, hears_next, nothing_taken, takes}

-- a choice, by its two cases
pub on_cond : {A : Type 0} (P : A → Type 0) (b : Bool) (x y : A) → (b ≡ true → P x) → (b ≡ false → P y) → P (cond b x y)
on_cond P true x y f g = f refl
on_cond P false x y f g = g refl

-- what comes of what the sender said
pub data Hearing (whole : Bool) (st : State) : Sound → Type 0 where
  a_frame : whole ≡ true → st.sender ≡ SenderEnd.Running → st.sent ≡ true → Hearing whole st (At st.acknowledged)
  call_off : SenderBroke st.sender → Hearing whole st Can
  no_frame : (whole ≡ true → st.sender ≡ SenderEnd.Running → st.sent ≡ false) → Hearing whole st Bad

pub hearing : (whole : Bool) (st : State) → Hearing whole st (heard whole (said st))
hearing false st = no_frame (λ w. cc)
hearing true st = go st.sender st.sent st.cancel_pending refl refl
  where
    go : (sender : SenderEnd) (sent cancel_pending : Bool) → st.sender ≡ sender → st.sent ≡ sent → Hearing true st (heard true (said_by sender sent cancel_pending st.acknowledged))
    go SenderEnd.Running true _ e f = a_frame refl e f
    go SenderEnd.Running false _ e f = no_frame (λ _ _. f)
    go SenderEnd.NoReply _ true e f = call_off (subst SenderBroke (sym e) tt)
    go SenderEnd.SourceFailed _ true e f = call_off (subst SenderBroke (sym e) tt)
    go _ _ _ e f = no_frame (λ _ w. cc)

-- the reply to a frame that is taken, or was
abbrev pub confirmation : {H : Type 0} → Frame H → Reply
confirmation (Piece number body) = Ack
confirmation EndBlock = Start
confirmation _ = AckStart

-- the sender has sent the frame that a Running receiver takes next
pub record IsFresh (st : State) : Type 0 where
  pub receiving : st.receiver ≡ ReceiverEnd.Running
  pub sending : st.sender ≡ SenderEnd.Running
  pub sent : st.sent ≡ true
  pub at : st.taken ≡ st.acknowledged

-- a Running receiver meets no frame that it takes
pub data IsFault {H : Type 0} (frames : List (Frame H)) (whole : Bool) (st : State) : Reply → Type 0 where
  again : st.sender ≡ SenderEnd.Running → st.sent ≡ true → st.taken ≢ st.acknowledged → IsFault frames whole st (confirmation (frame_at frames st.acknowledged))
  bad : (whole ≡ true → st.sender ≡ SenderEnd.Running → st.sent ≡ false) → IsFault frames whole st (asks_again (frame_before frames st.taken))

-- what an ended receiver replies
pub data IsEcho (whole : Bool) (st : State) : Reply → Type 0 where
  repeats : st.receiver ≡ ReceiverEnd.Finished → st.sender ≡ SenderEnd.Running → st.sent ≡ true → st.taken ≡ st.acknowledged + 1 → IsEcho whole st Ack
  silent : (whole ≡ true → st.receiver ≡ ReceiverEnd.Finished → st.sender ≡ SenderEnd.Running → st.sent ≡ true → st.taken ≢ st.acknowledged + 1) → IsEcho whole st Silence

pub data ReceiverStep {H : Type 0} (frames : List (Frame H)) (confirm : Confirm) (sink whole : Bool) (st : State) : Answer → Type 0 where
  stays : {reply : Reply} → st.receiver ≢ ReceiverEnd.Running → IsEcho whole st reply → ReceiverStep frames confirm sink whole st (st, reply)
  faults : {reply : Reply} → st.receiver ≡ ReceiverEnd.Running → IsFault frames whole st reply → st.receiver_retries + 1 < GIVE_UP → ReceiverStep frames confirm sink whole st (record st { receiver_retries = st.receiver_retries + 1 }, reply)
  gives_up : {reply : Reply} → st.receiver ≡ ReceiverEnd.Running → IsFault frames whole st reply → GIVE_UP ≤ st.receiver_retries + 1 → ReceiverStep frames confirm sink whole st (record st { receiver_retries = st.receiver_retries + 1; receiver = ReceiverEnd.TooManyErrors }, Cancel)
  takes_it : IsFresh st → frame_at frames st.acknowledged ≢ EndBlock → (frame_at frames st.acknowledged ≡ Eot → confirm ≡ Twice → st.first_eot ≡ true) → ReceiverStep frames confirm sink whole st (record st { taken = st.taken + 1; first_eot = false; receiver_retries = 0 }, confirmation (frame_at frames st.acknowledged))
  confirms : IsFresh st → confirm ≡ Twice → frame_at frames st.acknowledged ≡ Eot → st.first_eot ≡ false → ReceiverStep frames confirm sink whole st (record st { first_eot = true; receiver_retries = 0 }, Nak)
  finishes : IsFresh st → frame_at frames st.acknowledged ≡ EndBlock → ReceiverStep frames confirm sink whole st (record st { taken = st.taken + 1; receiver = ReceiverEnd.Finished }, Ack)
  breaks : IsFresh st → sink ≡ true → ReceiverStep frames confirm sink whole st (record st { receiver = ReceiverEnd.SinkFailed }, Cancel)
  is_cancelled : st.receiver ≡ ReceiverEnd.Running → SenderBroke st.sender → ReceiverStep frames confirm sink whole st (record st { receiver = ReceiverEnd.Cancelled }, Silence)

module _ {H : Type 0} (frames : List (Frame H)) (confirm : Confirm) (sink whole : Bool) (st : State) where
  abbrev pub Steps : Answer → Type 0
  Steps answer = ReceiverStep frames confirm sink whole st answer

  retries : (reply : Reply) → st.receiver ≡ ReceiverEnd.Running → IsFault frames whole st reply → Steps (nothing_taken st reply)
  retries reply running fault = on_cond Steps (nat_lt (st.receiver_retries + 1) GIVE_UP) _ _ (λ e. faults running fault (grind (arith, nat_tests))) (λ e. gives_up running fault (grind (arith, nat_tests)))

  last : st.receiver ≡ ReceiverEnd.Running → (frame : Frame H) → IsFault frames whole st (confirmation frame) → Steps (hears_last frame st)
  last running (Piece number body) fault = retries _ running fault
  last running _ fault = retries _ running fault

  taken : (failed : Bool) (frame : Frame H) → sink ≡ failed → frame_at frames st.acknowledged ≡ frame → IsFresh st → frame ≢ EndBlock → (frame ≡ Eot → confirm ≡ Twice → st.first_eot ≡ true) → Steps (takes st (confirmation frame) failed)
  taken true frame s e fresh other eot = breaks fresh s
  taken false frame s e fresh other eot =
      subst (λ f. Steps (takes st (confirmation f) false)) e (takes_it fresh (λ w. other (sym e ∙ w)) (λ w. eot (sym e ∙ w)))

  next : (c : Confirm) → confirm ≡ c → (frame : Frame H) → frame_at frames st.acknowledged ≡ frame → IsFresh st → Steps (hears_next c sink frame st)
  next Twice is_c Eot e fresh = on_cond Steps st.first_eot _ _ (λ f. taken sink Eot refl e fresh (λ w. cc) (λ _ _. f)) (λ f. confirms fresh is_c e f)
  next Once is_c Eot e fresh = taken sink Eot refl e fresh (λ w. cc) (λ _ w. cc)
  next c is_c EndBlock e fresh = finishes fresh e
  next c is_c _ e fresh = taken sink _ refl e fresh (λ w. cc) (λ w. cc)

  go : {sound : Sound} → Hearing whole st sound → (receiver : ReceiverEnd) → st.receiver ≡ receiver → Steps (hears frames confirm sink sound receiver st)
  go (a_frame w sending sent) ReceiverEnd.Running e = on_cond Steps (st.acknowledged == st.taken) _ _
      (λ t. next confirm refl (frame_at frames st.acknowledged) refl (record { receiving = e; sending = sending; sent = sent; at = grind (arith, nat_tests) }))
      (λ t. last e (frame_at frames st.acknowledged) (again sending sent (grind (arith, nat_tests))))
  go (call_off broke) ReceiverEnd.Running e = is_cancelled e broke
  go (no_frame n) ReceiverEnd.Running e = retries (asks_again (frame_before frames st.taken)) e (bad n)
  go (a_frame w sending sent) ReceiverEnd.Finished e = on_cond (λ r. Steps (st, r)) (st.acknowledged + 1 == st.taken) Ack Silence
      (λ t. stays (λ r. cc) (repeats e sending sent (grind (arith, nat_tests))))
      (λ t. stays (λ r. cc) (silent (λ _ _ _ _. grind (arith, nat_tests))))
  go (call_off broke) ReceiverEnd.Finished e = stays (λ r. cc) (silent (λ _ _ s. absurd (subst SenderBroke s broke)))
  go (no_frame n) ReceiverEnd.Finished e = stays (λ r. cc) (silent (λ w _ s f. absurd (let x = n w s in cc)))
  go _ _ e = stays (λ r. cc) (silent (λ _ w. cc))

  pub receiver-step : Steps (receiver_step frames confirm sink whole st)
  receiver-step = go (hearing whole st) st.receiver refl
