-- a receiver that refines a state of the machine follows the receiver step, however it has ended
use Rattle.std.proofs.Common.{ℕ, ◌+◌, ◌<◌, ◌≡◌, ◌≢◌, ◌⊎◌, ◌==◌, inl, inr, suc, zero, List, [], length, Bool, true, false, refl, sym, ap, ◌∙◌, subst, arith, Option, Some, None, Ok, Result}
use Rattle.ym_link.proofs.Names.{Reply, Silence, HeaderParts, HeaderFault, Zero, Kept, Told, Confirm, File, Frame, frames_of, SenderEnd, ReceiverEnd, State, start, said_by, nothing_taken, asks_again, RecvState, No_call, hears_at, Means, ReceiverParts, HearsGives, IsSent, item_of, open_at, receiver_at, ReceiverRefines, Goes}
use Rattle.ym_frame.specs.declared.control.Reply.TheVariants.{Ack}
use Rattle.ym_file.specs.Kept.{TellsNone, IsNew}
use Rattle.ym_machine.specs.Frames.{frame_before}
use Rattle.ym_machine.specs.State.{said}
use Rattle.ym_machine.specs.Steps.{Sound, At, Can, Bad}
use Rattle.ym_machine.specs.Steps as machine
use Rattle.ym_machine.specs.Machine.{Invariant}
use Rattle.ym_core.specs.declared.delivery.Heard.TheVariants as heard
use Rattle.ym_core.specs.declared.state.RecvState.TheVariants as state
use Rattle.ym_core.specs.Receiver.{hears, new_receiver, finished_reply}
use Rattle.ym_link.specs.ReceiverRefines.{IsBatch, heard_as, IsNextOrLast, state_of, heard_there, Follows}
use Rattle.ym_link.proofs.Spots.{PositionLaws, spot, none-first}
use Rattle.ym_link.proofs.TableRows.{yes, differ}
use Rattle.ym_link.proofs.Follows.{ZeroLaws, Took, took, quiet, next-goes, last-goes, cancelled-goes, first-bad-goes, bad-goes}

-- ---- What is heard is the next frame or the last one

module _ (confirm : Confirm) (files : List (File HeaderParts)) (st : State) (m : Invariant confirm (frames_of files) st) where
  -- a sender that has not finished stands before the end of the list
  before-end : st.sender ≡ SenderEnd.Running → st.acknowledged < length (frames_of files)
  before-end runs =
      let inner : st.acknowledged ≢ length (frames_of files) = λ e. let done = m.counters.sender_done.0 e in cc in
      let w = m.counters.within in
      elim m.counters.ahead [ inl e ↦ omega (arith, e, w, inner) | inr e ↦ omega (arith, e, w, inner) ]

  pub next-or-last : (whole : Bool) → IsNextOrLast (frames_of files) (machine.heard whole (said st)) st.taken
  next-or-last false = tt
  next-or-last true = by st.sender st.sent st.cancel_pending refl
    where
      position : st.sender ≡ SenderEnd.Running → (st.acknowledged < length (frames_of files)) × ((st.acknowledged ≡ st.taken) ⊎ (st.acknowledged + 1 ≡ st.taken))
      position runs = (before-end runs, elim m.counters.ahead [ inl e ↦ inl (sym e) | inr e ↦ inr (sym e) ])

      by : (end : SenderEnd) (sent cancel_pending : Bool) → st.sender ≡ end → IsNextOrLast (frames_of files) (machine.heard true (said_by end sent cancel_pending st.acknowledged)) st.taken
      by SenderEnd.Running true cancel_pending e = position e
      by SenderEnd.NoReply sent true e = tt
      by SenderEnd.SourceFailed sent true e = tt
      by _ sent cancel_pending e = tt

  -- ---- Where it goes

  module _ (laws : PositionLaws) (zeros : ZeroLaws) (batch : IsBatch files) (old : ReceiverParts) (s : ReceiverRefines confirm files st old.receiver old.kept)
      (meaning : Result Zero HeaderFault) (failed : Bool) (reply : Reply) (new : ReceiverParts) where
    abbrev frames : List (Frame HeaderParts)
    frames = frames_of files

    running-goes : st.receiver ≡ ReceiverEnd.Running → (sound : Sound) → IsNextOrLast frames sound st.taken → Means (receiver_at confirm files st) (heard_as frames sound) meaning
        → Took (receiver_at confirm files st) old.kept (hears (receiver_at confirm files st) meaning (heard_as frames sound)) failed reply new
        → Goes confirm files (machine.running_hears frames confirm failed sound st) reply new
    running-goes runs Can next means t = cancelled-goes confirm files st old.kept s.keeps runs failed reply new meaning t
    running-goes runs Bad next means t = by st.taken refl
      where
        by : (r : ℕ) → st.taken ≡ r → Goes confirm files (nothing_taken st (asks_again (frame_before frames r))) reply new
        by zero e = first-bad-goes confirm files st old.kept s.keeps runs failed reply new meaning (ap (open_at files) e ∙ none-first files) (s.keeps_open runs) t
        by (suc i) e = bad-goes confirm files st old.kept s.keeps runs failed reply new meaning i (omega (arith, e)) (spot laws IsSent files batch.sent i (let w = m.counters.within in omega (arith, e, w))) (s.keeps_open runs) t
    running-goes runs (At i) next means t =
        let inner : st.taken ≢ length frames = λ e. let done = m.counters.receiver_done.0 e in cc in
        let w = m.counters.within in
        elim next.1 [
          | inl e ↦ rw (e, yes st.taken) (next-goes confirm files st old.kept s.keeps runs failed reply new zeros meaning batch.few
              (spot laws IsSent files batch.sent st.taken (omega (arith, w, inner))) (s.keeps_open runs) (λ x. (m.counters.first_eot x).3) (rw e at means) (rw e at t))
          | inr e ↦ rw (differ i st.taken (omega (arith, e)))
              (last-goes confirm files st old.kept s.keeps runs failed reply new meaning i e inner (spot laws IsSent files batch.sent i next.0) (s.keeps_open runs) t)
        ]

    -- an ended receiver stays as it is
    ended-goes : (end : RecvState) → old.receiver.state ≡ end → (sound : Sound) (y : Reply) → hears_at end old.receiver meaning (heard_as frames sound) ≡ record { receiver = old.receiver; reply = y; call = No_call }
        → Took old.receiver old.kept (hears old.receiver meaning (heard_as frames sound)) failed reply new → Goes confirm files (st, y) reply new
    ended-goes end e sound y is t = quiet confirm files st y old.receiver old.receiver old.kept failed reply new
        (subst (λ x. Took old.receiver old.kept x failed reply new) (ap (λ x. hears_at x old.receiver meaning (heard_as frames sound)) e ∙ is) t) s

    finished-goes : st.receiver ≡ ReceiverEnd.Finished → (sound : Sound) → IsNextOrLast frames sound st.taken
        → Took old.receiver old.kept (hears old.receiver meaning (heard_as frames sound)) failed reply new → Goes confirm files (machine.finished_hears sound st) reply new
    finished-goes e Can next t = ended-goes state.Finished (s.state_is ∙ ap state_of e) Can Silence refl t
    finished-goes e Bad next t = ended-goes state.Finished (s.state_is ∙ ap state_of e) Bad Silence refl t
    finished-goes e (At i) next t =
        let done : st.taken ≡ length frames = m.counters.receiver_done.1 e in
        elim next.1 [
          | inl x ↦ absurd (let b = next.0 in omega (arith, x, done, b))
          | inr x ↦
              let same : (i + 1 == st.taken) ≡ true = rw x (yes st.taken) in
              rw same (ended-goes state.Finished (s.state_is ∙ ap state_of e) (At i) Ack
              (ap (λ fr. record { receiver = old.receiver; reply = finished_reply (heard.Item (item_of fr)); call = No_call }) (laws.last files i (x ∙ done))) t)
        ]

    sound-goes : (end : ReceiverEnd) → st.receiver ≡ end → (sound : Sound) → IsNextOrLast frames sound st.taken → Means old.receiver (heard_as frames sound) meaning
        → Took old.receiver old.kept (hears old.receiver meaning (heard_as frames sound)) failed reply new → Goes confirm files (machine.hears frames confirm failed sound end st) reply new
    sound-goes ReceiverEnd.Running e sound next means t = running-goes e sound next (rw (s.running e) at means) (rw (s.running e) at t)
    sound-goes ReceiverEnd.Finished e sound next means t = finished-goes e sound next t
    sound-goes end e sound next means t = ended-goes (state_of end) (s.state_is ∙ ap state_of e) sound Silence refl t

pub follows : (laws : PositionLaws) (zeros : ZeroLaws) (confirm : Confirm) (files : List (File HeaderParts)) (whole : Bool) (st : State) (old : ReceiverParts) (reply : Reply) (new : ReceiverParts)
    → IsBatch files → Invariant confirm (frames_of files) st → ReceiverRefines confirm files st old.receiver old.kept → HearsGives old (heard_there files whole st) (Ok reply) new → Follows confirm files whole st old reply new
follows laws zeros confirm files whole st old reply new batch m s gives =
    let takes = gives.2.1 in (
      gives.2.0,
      takes.truth,
      sound-goes confirm files st m laws zeros batch old s gives.0 gives.2.0 reply new st.receiver refl (machine.heard whole (said st)) (next-or-last confirm files st m whole) gives.1
          (took old (hears old.receiver gives.0 (heard_there files whole st)) gives.2.0 reply new takes),
    )

-- ---- A new receiver

none-told : (o : Option Told) → TellsNone o → (told : Told) → o ≡ Some told → (told.open_bytes ≡ []) × (told.files ≡ [])
none-told None w told e = absurd cc
none-told (Some t) w told e = subst (λ o. TellsNone o) e w

pub starts : (confirm : Confirm) (files : List (File HeaderParts)) (kept : Kept) → IsNew kept → ReceiverRefines confirm files start (new_receiver confirm) kept
starts confirm files kept fresh = record {
  confirm_is = refl;
  state_is = refl;
  files_is = refl;
  keeps = record { headers = fresh.headers; bytes = λ t e. (none-told kept.told fresh.told t e).1 };
  running = λ _. rw (none-first files) refl;
  keeps_open = λ _. rw (none-first files) (record { opened = fresh.opened; taken = fresh.taken; bytes = λ t e. (none-told kept.told fresh.told t e).0 });
}
