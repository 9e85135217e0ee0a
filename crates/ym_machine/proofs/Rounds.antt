-- what a whole round lowers, and no round raises
use Rattle.std.proofs.Common.{◌+◌, ◌<◌, ◌≤◌, ◌≡◌, ◌⊎◌, List, ◌∷◌, true, refl, sym, ap, ◌∙◌, subst, inl, inr, arith, None}
use Rattle.ym_machine.proofs.Names.{Control, Reply, Ack, Confirm, EndsOnce, Frame, SenderEnd, State, Answer, KeepsReceiver, KeepsSender, SenderStays, controls, is_within, receiver_step, IsTurnDamage, Turn, after_turn, came_back, is_whole, IsGoing, ReceiverGoes, rounds_remaining, Invariant}
use Rattle.ym_frame.specs.declared.control.Control.TheVariants as control
use Rattle.ym_machine.proofs.Keeps.{there-keeps, back-keeps, back-stays}
use Rattle.ym_machine.proofs.MachineStates.{acknowledged-taken, there-machine}
use Rattle.ym_machine.proofs.ReceiverSteps.{ReceiverStep, receiver-step}
use Rattle.ym_machine.proofs.Remaining.{WholeThere, back-left, helped, helped-forward, kind, left-done, left-is, refused, refused-vain, taken_on, there-left, whole-there, worth}
use Rattle.ym_machine.proofs.SenderSteps.{SenderStep, sender-step}

-- what comes back whole is no damage
pub all-of-it : (reply : Reply) → is_within (controls reply) (controls reply) ≡ true
all-of-it Ack = refl
all-of-it _ = refl

-- the reply of a whole turn comes back
pub whole-back : (turn : Turn) → is_whole turn ≡ true → (turn.whole_there ≡ true) × (turn.back ≡ None)
whole-back turn e = grind (arith, e)

pub whole-came : (turn : Turn) → is_whole turn ≡ true → (reply : Reply) → came_back turn.back reply ≡ controls reply
whole-came turn e reply = ap (λ b. came_back b reply) (whole-back turn e).1

pub sender-is : (st : State) → IsGoing st → (st.sender ≡ SenderEnd.Running) ⊎ (st.sender ≡ SenderEnd.Finished)
sender-is st going = grind (arith, going)

-- a turn in its two steps
module _ {H : Type 0} (frames : List (Frame H)) (confirm : Confirm) (ends : EndsOnce frames) (turn : Turn) (st : State) (m : Invariant confirm frames st) where
  abbrev pub answer : Answer
  answer = receiver_step frames confirm turn.sink_failed turn.whole_there st

  abbrev pub came : List Control
  came = came_back turn.back answer.1

  abbrev pub new : State
  new = after_turn frames confirm turn st

  abbrev pub step_there : ReceiverStep frames confirm turn.sink_failed turn.whole_there st answer
  step_there = receiver-step frames confirm turn.sink_failed turn.whole_there st

  abbrev pub step_back : SenderStep frames turn.source_failed came answer.0 new
  step_back = sender-step frames turn.source_failed came answer.0

  pub keeps : KeepsSender st answer.0
  keeps = there-keeps frames st confirm turn.sink_failed turn.whole_there

  pub new-receiver : new.receiver ≡ answer.0.receiver
  new-receiver = let k : KeepsReceiver answer.0 new = back-keeps frames answer.0 turn.source_failed came in k.receiver

  pub mid : Invariant confirm frames answer.0
  mid = there-machine frames confirm ends turn.sink_failed turn.whole_there st m

  pub whole-damage : is_whole turn ≡ true → IsTurnDamage frames confirm turn st
  whole-damage e = subst (λ cs. is_within cs (controls answer.1) ≡ true) (sym (whole-came turn e answer.1)) (all-of-it answer.1)

  -- a sender that has finished stays so
  pub still-done : st.sender ≡ SenderEnd.Finished → new.sender ≡ SenderEnd.Finished
  still-done done = let e : answer.0.sender ≡ SenderEnd.Finished = keeps.sender ∙ done in let s : SenderStays answer.0 new = back-stays frames answer.0 turn.source_failed came (λ w. cc) in s.sender ∙ e

  pub told : IsTurnDamage frames confirm turn st → (rest : List Control) → came ≡ control.Ack ∷ rest → answer.0.sender ≡ SenderEnd.Running → (answer.0.sent ≡ true) × (answer.0.taken ≡ answer.0.acknowledged + 1)
  told damage = acknowledged-taken frames confirm ends turn.sink_failed turn.whole_there came st m damage

  -- what a turn lowers
  turn-lowers : st.sender ≡ SenderEnd.Running → IsTurnDamage frames confirm turn st → rounds_remaining confirm frames new + (worth (kind step_back) + taken_on step_there) ≡ rounds_remaining confirm frames st
  turn-lowers running damage =
      let first = there-left frames confirm turn.sink_failed turn.whole_there st m.counters running step_there in
      let second = back-left frames confirm ends turn.source_failed came answer.0 mid.counters (told damage) (keeps.sender ∙ running) step_back in
      let old = left-is confirm frames st (λ w. cc) in
      omega (arith, first, second, old)

  pub turn-left : IsGoing st → IsTurnDamage frames confirm turn st → rounds_remaining confirm frames new ≤ rounds_remaining confirm frames st
  turn-left going damage = elim (sender-is st going) [
    | inl running ↦ (let x = turn-lowers running damage in omega (arith, x))
    | inr done ↦ (let x = left-done confirm frames new (still-done done) in omega (arith, x))
  ]

  -- the receiver step of a whole turn
  pub there-whole : is_whole turn ≡ true → st.sender ≡ SenderEnd.Running → ReceiverGoes answer.0.receiver → WholeThere frames confirm st (taken_on step_there) answer
  there-whole whole running goes = whole-there frames confirm ends turn.sink_failed turn.whole_there (whole-back turn whole).0 st m.counters running step_there goes

  pub turn-lowered : IsGoing st → IsGoing new → is_whole turn ≡ true → 0 < rounds_remaining confirm frames st → rounds_remaining confirm frames st ≡ rounds_remaining confirm frames new + 1
  turn-lowered going after whole some = elim (sender-is st going) [
    | inl running ↦ (
        let s = sum running (there-whole whole running (rw new-receiver at after.1)) in
        let x = turn-lowers running (whole-damage whole) in omega (arith, s, x))
    | inr done ↦ absurd (let z = left-done confirm frames st done in omega (arith, z))
  ]
    where
      sum : st.sender ≡ SenderEnd.Running → WholeThere frames confirm st (taken_on step_there) answer → worth (kind step_back) + taken_on step_there ≡ 1
      sum running (helped h none) =
          let k = helped-forward frames turn.source_failed came answer.0 (keeps.sender ∙ running) (rw (whole-came turn whole answer.1) h) step_back in
          let w = ap worth k in omega (arith, w, none)
      sum running (refused idle sent first count nak one) =
          let k = refused-vain frames turn.source_failed came answer.0 (keeps.sender ∙ running) sent (whole-came turn whole answer.1 ∙ nak) step_back in
          let w = ap worth k in omega (arith, w, one)
