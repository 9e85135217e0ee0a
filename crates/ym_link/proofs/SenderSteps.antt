-- What a sender that refines a state of the machine does with what came back is what the machine does.
use Rattle.std.proofs.Common.{ℕ, ◌+◌, ◌≡◌, inl, inr, List, [], ◌∷◌, Bool, true, false, refl, sym, ap, ◌∙◌, subst, cond, nat_lt, None, Some}
use Rattle.ym_link.proofs.Names.{Control, Ack, Start, HeaderParts, Frame, BlockZero, Piece, EotFrame, EndBlock, frames_of, frame_at, State, SenderEnd, sender_step, IsRemnant, Position, Header, Block, Eot, End, Mode, Waiting, Sent, Standing, SendState, next_of, missed, hears, hears_in, after_fill, Batch, counts_in, position_at, state_of, mode_of, cancel_pending_of, GIVE_UP}
use Rattle.ym_machine.specs.Steps.{sends, nothing_gained, running_gets, gets, acknowledged_at}
use Rattle.ym_core.specs.declared.standing.SendStep.{SendStep as Step}
use Rattle.ym_core.specs.declared.state.SendState.TheVariants as state
use Rattle.ym_core.specs.Standing.{step, runs}
use Rattle.ym_link.specs.SenderRefines.{RefinesAt}
use Rattle.ym_link.proofs.SenderPositions.{SameKind, next_at, kind_at}

-- a step and what the source made of it
abbrev pub after : Bool → Step → Standing
after failed taken = after_fill failed taken.fills taken.standing

module _ (files : Batch) where
  -- an end that runs
  on : (new : State) (s : Standing) → new.sender ≡ SenderEnd.Running → s.state ≡ state.Running → s.cancel_pending ≡ false
      → s.position ≡ position_at files new.acknowledged → s.mode ≡ mode_of new.sent → s.retries ≡ new.sender_retries → RefinesAt files new s
  on new s running is quiet position mode retries = record {
    state = is ∙ sym (ap state_of running);
    cancel_pending = quiet ∙ sym (ap (λ e. cancel_pending_of e new.cancel_pending) running);
    position = position;
    mode = λ _. mode;
    retries = λ _. retries;
  }

  -- an end that has ended
  off : (new : State) (s : Standing) → (new.sender ≡ SenderEnd.Running → ⊥) → s.state ≡ state_of new.sender → s.cancel_pending ≡ cancel_pending_of new.sender new.cancel_pending
      → s.position ≡ position_at files new.acknowledged → RefinesAt files new s
  off new s ended is cancel_pending position = record {
    state = is;
    cancel_pending = cancel_pending;
    position = position;
    mode = λ h. absurd (ended h);
    retries = λ h. absurd (ended h);
  }

  unfilled : (failed : Bool) (new : State) (s : Standing) → RefinesAt files new s → RefinesAt files new (after_fill failed None s)
  unfilled true new s h = h
  unfilled false new s h = h

-- the standing of a running sender
abbrev at : Position → Mode → ℕ → Standing
at position mode retries = record { position = position; mode = mode; retries = retries; state = state.Running; cancel_pending = false }

module _ (files : Batch) (st : State) (running : st.sender ≡ SenderEnd.Running) where
  -- the frame at a position becomes the sent one
  sends_there : (failed : Bool) (p : ℕ) (f : Frame HeaderParts) (q : Position) → SameKind f q → q ≡ position_at files p → RefinesAt files (sends failed f p st) (after_fill failed (Some q) (at q Sent 0))
  sends_there true p (Piece n body) (Block i k) same is = off files _ _ (λ h. cc) refl refl is
  sends_there true p (BlockZero h) (Header i) same is = on files _ _ running refl refl is refl refl
  sends_there true p EotFrame (Eot i) same is = on files _ _ running refl refl is refl refl
  sends_there true p EndBlock End same is = on files _ _ running refl refl is refl refl
  sends_there true p _ _ same is = absurd same
  sends_there false p f q same is = on files _ _ running refl refl is refl refl

module _ (files : Batch) (st : State) (running : st.sender ≡ SenderEnd.Running) (failed : Bool) where
  missed_agrees : (m : Bool) → st.sent ≡ m → RefinesAt files (nothing_gained st) (after failed (missed (at (position_at files st.acknowledged) (mode_of m) st.sender_retries)))
  missed_agrees m is = by (nat_lt (st.sender_retries + 1) GIVE_UP)
    where
      by : (b : Bool) → RefinesAt files (cond b (record st { sender_retries = st.sender_retries + 1 }) (record st { sender_retries = st.sender_retries + 1; sender = SenderEnd.NoReply; cancel_pending = true }))
          (after failed (cond {A = Step} b (step (at (position_at files st.acknowledged) (mode_of m) (st.sender_retries + 1)))
          (step (record (at (position_at files st.acknowledged) (mode_of m) (st.sender_retries + 1)) { state = state.NoReply; cancel_pending = true }))))
      by true = unfilled files failed _ _ (on files _ _ running refl refl refl (ap mode_of (sym is)) refl)
      by false = unfilled files failed _ _ (off files _ _ (λ h. cc) refl refl refl)

  sends_agrees : (p : ℕ) (q : Position) → q ≡ position_at files p → RefinesAt files (sends failed (frame_at (frames_of files) p) p st) (after_fill failed (Some q) (at q Sent 0))
  sends_agrees p q is = sends_there files st running failed p (frame_at (frames_of files) p) q (rw is (kind_at files p)) is

  -- waiting at a position
  waits_agrees : (p : ℕ) (q : Position) → q ≡ position_at files p → RefinesAt files (record st { acknowledged = p; sent = false; sender_retries = 0 }) (after_fill failed None (at q Waiting 0))
  waits_agrees p q is = unfilled files failed _ _ (on files _ _ running refl refl is refl refl)

  next_is : (q : Position) → q ≡ position_at files st.acknowledged → next_of (counts_in files) q ≡ position_at files (st.acknowledged + 1)
  next_is q is = ap (next_of (counts_in files)) is ∙ next_at files st.acknowledged

  -- the frame was acknowledged, and a C came behind it or did not
  acknowledged : (c : Bool) (f : Frame HeaderParts) (q : Position) → SameKind f q → q ≡ position_at files st.acknowledged
      → RefinesAt files (acknowledged_at (frames_of files) failed c f st) (after failed (runs (counts_in files) (at q Sent st.sender_retries) (cond c (Ack ∷ Start ∷ []) (Ack ∷ []))))
  acknowledged true (BlockZero h) (Header i) same is = sends_agrees (st.acknowledged + 1) _ (next_is (Header i) is)
  acknowledged false (BlockZero h) (Header i) same is = waits_agrees (st.acknowledged + 1) _ (next_is (Header i) is)
  acknowledged true EotFrame (Eot i) same is = sends_agrees (st.acknowledged + 1) _ (next_is (Eot i) is)
  acknowledged false EotFrame (Eot i) same is = waits_agrees (st.acknowledged + 1) _ (next_is (Eot i) is)
  acknowledged _ (Piece n body) (Block i k) same is = sends_agrees (st.acknowledged + 1) _ (next_is (Block i k) is)
  acknowledged _ EndBlock End same is = unfilled files failed _ _ (off files _ _ (λ h. cc) refl refl (next_is End is))
  acknowledged _ _ _ same is = absurd same

  cancels : (m : Bool) → RefinesAt files (record st { sender = SenderEnd.Cancelled }) (after_fill failed None (record (at (position_at files st.acknowledged) (mode_of m) st.sender_retries) { state = state.Cancelled }))
  cancels m = unfilled files failed _ _ (off files _ _ (λ h. cc) refl refl refl)

  running_agrees : (m : Bool) → st.sent ≡ m → (came : List Control) → IsRemnant came
      → RefinesAt files (running_gets (frames_of files) failed m came st) (after failed (runs (counts_in files) (at (position_at files st.acknowledged) (mode_of m) st.sender_retries) came))
  running_agrees true is came (inl e) = rw e (missed_agrees true is)  -- nothing
  running_agrees false is came (inl e) = rw e (missed_agrees false is)
  running_agrees true is came (inr (inl e)) = rw e (missed_agrees true is)  -- C
  running_agrees false is came (inr (inl e)) = rw e (sends_agrees st.acknowledged (position_at files st.acknowledged) refl)
  running_agrees true is came (inr (inr (inl e))) =  -- ACK
      rw e (acknowledged false (frame_at (frames_of files) st.acknowledged) (position_at files st.acknowledged) (kind_at files st.acknowledged) refl)
  running_agrees false is came (inr (inr (inl e))) = rw e (missed_agrees false is)
  running_agrees true is came (inr (inr (inr (inl e)))) =  -- ACK and C
      rw e (acknowledged true (frame_at (frames_of files) st.acknowledged) (position_at files st.acknowledged) (kind_at files st.acknowledged) refl)
  running_agrees false is came (inr (inr (inr (inl e)))) = rw e (sends_agrees st.acknowledged (position_at files st.acknowledged) refl)
  running_agrees true is came (inr (inr (inr (inr (inl e))))) = rw e (missed_agrees true is)  -- NAK
  running_agrees false is came (inr (inr (inr (inr (inl e))))) = rw e (missed_agrees false is)
  running_agrees true is came (inr (inr (inr (inr (inr (inl e)))))) = rw e (missed_agrees true is)  -- CAN
  running_agrees false is came (inr (inr (inr (inr (inr (inl e)))))) = rw e (missed_agrees false is)
  running_agrees m is came (inr (inr (inr (inr (inr (inr e)))))) = rw e (cancels m)  -- CAN CAN

standing_is : (s : Standing) (position : Position) (mode : Mode) (retries : ℕ) → s.position ≡ position → s.mode ≡ mode → s.retries ≡ retries → s.state ≡ state.Running → s.cancel_pending ≡ false
    → s ≡ record { position = position; mode = mode; retries = retries; state = state.Running; cancel_pending = false }
standing_is s position mode retries a b c d e = rw (← a, ← b, ← c, ← d, ← e) refl

module _ (files : Batch) (st : State) (s : Standing) (failed : Bool) (came : List Control) (refines : RefinesAt files st s) where
  -- an ended sender has no CAN CAN to go behind a delivery
  ended_agrees : (e : SenderEnd) → st.sender ≡ e → (e ≡ SenderEnd.Running → ⊥) → (new : State) → new.sender ≡ st.sender → new.acknowledged ≡ st.acknowledged → cancel_pending_of e new.cancel_pending ≡ false
      → RefinesAt files new (after_fill failed None (record s { cancel_pending = false }))
  ended_agrees e is ended new same position gone = unfilled files failed new _ (off files new _ (λ h. ended (sym is ∙ (sym same ∙ h))) (refines.state ∙ ap state_of (sym same))
      (sym (ap (λ x. cancel_pending_of x new.cancel_pending) (same ∙ is) ∙ gone)) (refines.position ∙ ap (position_at files) (sym position)))

  -- by how the machine's sender stands
  step_agrees : IsRemnant came → (e : SenderEnd) → st.sender ≡ e → RefinesAt files (gets (frames_of files) failed came e st) (after failed (hears_in (state_of e) (counts_in files) s came))
  step_agrees remnant SenderEnd.Running is =
      rw (standing_is s (position_at files st.acknowledged) (mode_of st.sent) st.sender_retries refines.position (refines.mode is) (refines.retries is) (refines.state ∙ ap state_of is)
      (refines.cancel_pending ∙ ap (λ x. cancel_pending_of x st.cancel_pending) is)) (running_agrees files st is failed st.sent refl came remnant)
  step_agrees remnant SenderEnd.Finished is = ended_agrees SenderEnd.Finished is (λ h. cc) st refl refl refl
  step_agrees remnant SenderEnd.Cancelled is = ended_agrees SenderEnd.Cancelled is (λ h. cc) st refl refl refl
  step_agrees remnant SenderEnd.NoReply is = ended_agrees SenderEnd.NoReply is (λ h. cc) (record st { cancel_pending = false }) refl refl refl
  step_agrees remnant SenderEnd.SourceFailed is = ended_agrees SenderEnd.SourceFailed is (λ h. cc) (record st { cancel_pending = false }) refl refl refl

  -- the sender step, from where it stands to where the machine goes
  pub half_back : IsRemnant came → RefinesAt files (sender_step (frames_of files) failed came st) (after failed (hears (counts_in files) s came))
  half_back remnant = subst (λ (x : SendState). RefinesAt files (sender_step (frames_of files) failed came st) (after failed (hears_in x (counts_in files) s came))) (sym refines.state) (step_agrees remnant st.sender refl)
