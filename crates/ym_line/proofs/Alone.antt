-- A sender that hears nothing, beside a receiver that takes no step.
use Rattle.std.proofs.Common.{◌≡◌, ◌∙◌, ◌+◌, ◌≤◌, nat_lt, if◌then◌else◌, ℕ, Bool, true, false, List, [], refl, sym, ap, subst, inl, inr, arith}
use Rattle.std.proofs.lemmas.Bool.{cond_both, ltb-true}
use Rattle.ym_line.proofs.Names.{HeaderParts, Confirm, frames_of, State, controls_in, Batch, AllTold, SenderParts}
use Rattle.ym_machine.specs.declared.limits.TheConstants.{GIVE_UP}
use Rattle.ym_machine.specs.Frames.{Frame, frame_at}
use Rattle.ym_machine.specs.RoundsRemaining.{ReceiverGoes, SenderGoes}
use Rattle.ym_machine.specs.ShortBursts.{IsFine}
use Rattle.ym_machine.specs.Steps as machine
use Rattle.ym_machine.specs.Machine.{Answer, Invariant, receiver_step, sender_step, KeepsSender, KeepsReceiver}
use Rattle.ym_machine.specs.State.{SenderEnd, ReceiverEnd}
use Rattle.ym_core.specs.Standing.{hears}
use Rattle.ym_link.specs.Sender.{IsStep, counts}
use Rattle.ym_link.specs.SenderRefines.{SenderRefines}
use Rattle.ym_line.proofs.HalfSteps.{source-truth, still-told}

module _ (confirm : Confirm) (frames : List (Frame HeaderParts)) (failed : Bool) where
  -- where the machine's sender goes of nothing
  abbrev pub behind : State → State
  behind st = sender_step frames failed [] st

  -- ---- The invariant

  missed-stands : (st : State) → Invariant confirm frames st → st.sender ≡ SenderEnd.Running → Invariant confirm frames (machine.nothing_gained st)
  missed-stands st stands on =
      cond_both (nat_lt (st.sender_retries + 1) GIVE_UP) _ _ (Invariant confirm frames)
      (λ e. let few = ltb-true (st.sender_retries + 1) GIVE_UP e in grind (arith, stands, on, few))
      (λ e. grind (arith, stands, on))

  quiet-stands : (sent : Bool) (st : State) → Invariant confirm frames st → st.sender ≡ SenderEnd.Running → Invariant confirm frames (machine.running_gets frames failed sent [] st)
  quiet-stands true st stands on = missed-stands st stands on
  quiet-stands false st stands on = missed-stands st stands on

  pub behind-stands : (st : State) → Invariant confirm frames st → Invariant confirm frames (behind st)
  behind-stands st stands = by st.sender refl
    where
      by : (end : SenderEnd) → st.sender ≡ end → Invariant confirm frames (machine.gets frames failed [] end st)
      by SenderEnd.Running on = quiet-stands st.sent st stands on
      by SenderEnd.NoReply on = grind (arith, stands, on)
      by SenderEnd.SourceFailed on = grind (arith, stands, on)
      by _ on = stands

  -- ---- Beside a turn in which both deliveries are lost

  both-ways : (test : Bool) (a b c d : State) → KeepsSender a c → KeepsSender b d → KeepsSender (if test then a else b) (if test then c else d)
  both-ways true a b c d first second = first
  both-ways false a b c d first second = second

  missed-alike : (x y : State) → KeepsSender x y → KeepsSender (machine.nothing_gained x) (machine.nothing_gained y)
  missed-alike x y same =
      rw same.sender_retries (both-ways (nat_lt (x.sender_retries + 1) GIVE_UP) _ _ _ _
      (record { sender = same.sender; acknowledged = same.acknowledged; sent = same.sent; sender_retries = refl; cancel_pending = same.cancel_pending })
      (record { sender = refl; acknowledged = same.acknowledged; sent = same.sent; sender_retries = refl; cancel_pending = refl }))

  quiet-alike : (sent : Bool) (x y : State) → KeepsSender x y → KeepsSender (machine.running_gets frames failed sent [] x) (machine.running_gets frames failed sent [] y)
  quiet-alike true x y same = missed-alike x y same
  quiet-alike false x y same = missed-alike x y same

  behind-alike : (x y : State) → KeepsSender x y → KeepsSender (behind x) (behind y)
  behind-alike x y same = subst (λ end. KeepsSender (behind x) (machine.gets frames failed [] end y)) (sym same.sender) (by x.sender)
    where
      by : (end : SenderEnd) → KeepsSender (machine.gets frames failed [] end x) (machine.gets frames failed [] end y)
      by SenderEnd.Running = subst (λ sent. KeepsSender (machine.running_gets frames failed x.sent [] x) (machine.running_gets frames failed sent [] y)) (sym same.sent) (quiet-alike x.sent x y same)
      by SenderEnd.NoReply = record { sender = same.sender; acknowledged = same.acknowledged; sent = same.sent; sender_retries = same.sender_retries; cancel_pending = refl }
      by SenderEnd.SourceFailed = record { sender = same.sender; acknowledged = same.acknowledged; sent = same.sent; sender_retries = same.sender_retries; cancel_pending = refl }
      by _ = same

  -- the receiver's half of that turn: no frame is taken, and a receiver that goes on has no fewer retries
  record Heard_nothing (st half : State) : Type 0 where
    taken : half.taken ≡ st.taken
    first_eot : half.first_eot ≡ st.first_eot
    goes_on : st.receiver ≡ ReceiverEnd.Running → ReceiverGoes half.receiver → (half.receiver ≡ ReceiverEnd.Running) × (st.receiver_retries ≤ half.receiver_retries)

  abbrev half : State → State
  half st = (receiver_step frames confirm false false st).0

  heard-nothing : (st : State) → Heard_nothing st (half st)
  heard-nothing st = by st.receiver
    where
      by : (end : ReceiverEnd) → Heard_nothing st (machine.hears frames confirm false machine.Bad end st).0
      by ReceiverEnd.Running =
          cond_both (nat_lt (st.receiver_retries + 1) GIVE_UP) _ _ (λ (a : Answer). Heard_nothing st a.0)
          (λ e. record { taken = refl; first_eot = refl; goes_on = λ on goes. (on, omega arith) })
          (λ e. record { taken = refl; first_eot = refl; goes_on = λ on goes. absurd goes })
      by _ = record { taken = refl; first_eot = refl; goes_on = λ on goes. (on, omega arith) }

  -- Where that turn leads to a state that is fine, so does a delivery of nothing to the sender alone.
  pub behind-fine : (before next : ℕ) (st : State) → Invariant confirm frames (behind st) → KeepsReceiver st (behind st) → KeepsSender st (half st) → KeepsReceiver (half st) (behind (half st)) →
      IsFine confirm frames before st → IsFine confirm frames next (behind (half st)) → IsFine confirm frames next (behind st)
  behind-fine before next st stands keeps there back was fine =
      let alike : KeepsSender (behind st) (behind (half st)) = behind-alike st (half st) there in
      let heard : Heard_nothing st (half st) = heard-nothing st in
      let runs : (behind st).receiver ≡ ReceiverEnd.Running → (half st).receiver ≡ ReceiverEnd.Running =
      λ on. (heard.goes_on (sym keeps.receiver ∙ on) (subst ReceiverGoes back.receiver fine.going.1)).0 in
      let few : (behind st).receiver ≡ ReceiverEnd.Running → (behind st).receiver_retries ≤ (behind (half st)).receiver_retries =
      λ on. let more = (heard.goes_on (sym keeps.receiver ∙ on) (subst ReceiverGoes back.receiver fine.going.1)).1 in let x = keeps.receiver_retries in let y = back.receiver_retries in omega (arith, more, x, y) in
      record {
        machine = stands;
        going = (subst SenderGoes alike.sender fine.going.0, subst ReceiverGoes (sym keeps.receiver) was.going.1);
        sender_retries = λ on. let less = fine.sender_retries (alike.sender ∙ on) in let same = alike.sender_retries in omega (arith, less, same);
        sender_idle = λ on idle. let less = fine.sender_idle (alike.sender ∙ on) (record {
          twice = idle.twice;
          sent = alike.sent ∙ idle.sent;
          at = (back.taken ∙ (heard.taken ∙ sym keeps.taken)) ∙ (idle.at ∙ sym alike.acknowledged);
          eot = ap (frame_at frames) alike.acknowledged ∙ idle.eot;
          first = (back.first_eot ∙ (heard.first_eot ∙ sym keeps.first_eot)) ∙ idle.first;
        }) in let same = alike.sender_retries in omega (arith, less, same);
        receiver_retries = λ on. let less = fine.receiver_retries (back.receiver ∙ runs on) in let more = few on in omega (arith, less, more);
        receiver_idle = λ on idle.
            let same_taken : (behind (half st)).taken ≡ (behind st).taken = back.taken ∙ (heard.taken ∙ sym keeps.taken) in
            let less = fine.receiver_idle (back.receiver ∙ runs on) (elim idle [
              | inl unsent ↦ inl (alike.sent ∙ unsent)
              | inr ahead ↦ inr (same_taken ∙ (ahead ∙ ap (λ n. n + 1) (sym alike.acknowledged)))
            ]) in
            let more = few on in omega (arith, less, more);
      }

module _ (confirm : Confirm) (files : Batch) (st : State) (failed : Bool) where
  pub alone-stands : Invariant confirm (frames_of files) st → KeepsReceiver st (behind confirm (frames_of files) failed st) →
      ((old new : SenderParts) (bytes : List ℕ) → SenderRefines files st old → machine.IsRemnant (controls_in bytes) → IsStep old (hears (counts old) old.standing (controls_in bytes)) failed new →
      SenderRefines files (sender_step (frames_of files) failed (controls_in bytes) st) new) →
      (old new : SenderParts) → AllTold old.files → SenderRefines files st old → IsStep old (hears (counts old) old.standing []) failed new →
      Invariant confirm (frames_of files) (sender_step (frames_of files) failed [] st) × AllTold new.files × SenderRefines files (sender_step (frames_of files) failed [] st) new × KeepsReceiver st (sender_step (frames_of files) failed [] st)
  alone-stands stands keeps follows old new told refines heard = (
    behind-stands confirm (frames_of files) failed st stands,
    still-told failed old.files new.files (source-truth failed _ old.files new.files heard.files) told,
    follows old new [] refines (inl refl) heard,
    keeps,
  )
