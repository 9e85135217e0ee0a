-- neither end gives up while no bad run is longer than a burst
use Rattle.std.proofs.Common.{ℕ, ◌+◌, ◌≤◌, ◌≡◌, ◌≢◌, ◌⊎◌, List, [], ◌∷◌, Bool, true, false, refl, sym, ◌∙◌, subst, inl, inr, arith, cond, max}
use Rattle.ym_machine.proofs.Names.{Control, Reply, Confirm, BURST, EndsOnce, Frame, ReceiverEnd, SenderEnd, State, start, Answer, IsDamage, IsTurnDamage, NoFailure, Turn, after_turn, after_turns, is_whole, longest_bad_run, IsGoing, ReceiverGoes, Invariant, SenderBroke}
use Rattle.ym_frame.specs.declared.control.Control.TheVariants as control
use Rattle.ym_machine.proofs.Endings.{no-cans}
use Rattle.ym_machine.proofs.MachineStates.{onward, start-machine, turn-machine}
use Rattle.ym_machine.proofs.ReceiverSteps.{IsFault, ReceiverStep, on_cond}
use Rattle.ym_machine.proofs.Remaining.{forward, helped, helped-forward, kind, refused, refused-vain, vain}
use Rattle.ym_machine.proofs.Rounds.{answer, came, keeps, mid, sender-is, step_back, step_there, still-done, there-whole, told, whole-back, whole-came, whole-damage}
use Rattle.ym_machine.proofs.SenderSteps.{Onward, SenderStep}
use Rattle.ym_machine.specs.RoundsRemaining.{SenderGoes}
use Rattle.ym_machine.specs.ShortBursts.{SenderIdle, ReceiverIdle, IsFine}

-- in the middle of a round
record IsMiddle {H : Type 0} (confirm : Confirm) (frames : List (Frame H)) (b : ℕ) (whole : Bool) (st : State) : Type 0 where
  goes : ReceiverGoes st.receiver
  sender_retries : st.sender_retries ≤ b + (BURST + 1)
  sender_idle : SenderIdle confirm frames st → st.sender_retries ≤ b
  receiver_retries : st.receiver ≡ ReceiverEnd.Running → st.receiver_retries ≤ b + (BURST + 2)
  receiver_idle : st.receiver ≡ ReceiverEnd.Running → ReceiverIdle st → st.receiver_retries ≤ b + 1
  whole_count : whole ≡ true → st.receiver ≡ ReceiverEnd.Running → st.receiver_retries ≤ b + 1

pub got-all : {H : Type 0} (confirm : Confirm) (frames : List (Frame H)) (st : State) → Invariant confirm frames st → st.sender ≡ SenderEnd.Finished → st.receiver ≡ ReceiverEnd.Finished
got-all confirm frames st machine done = let m = machine.counters in m.receiver_done.0 (let x = m.sender_done.1 done in let w = m.within in let a = m.ahead in omega arith)

fine-done : {H : Type 0} (confirm : Confirm) (frames : List (Frame H)) (b : ℕ) (st : State) → Invariant confirm frames st → st.sender ≡ SenderEnd.Finished → IsFine confirm frames b st
fine-done confirm frames b st m done = let got = got-all confirm frames st m done in grind (arith, m, got, done)

module _ {H : Type 0} (frames : List (Frame H)) (confirm : Confirm) (sink whole : Bool) (b : ℕ) (st : State) (f : IsFine confirm frames b st) (running : st.sender ≡ SenderEnd.Running) where
  fault-idle : {reply : Reply} → whole ≡ true → IsFault frames whole st reply → ReceiverIdle st
  fault-idle w (IsFault.again sending sent apart) = inr (let a = f.machine.counters.ahead in omega arith)
  fault-idle w (IsFault.bad n) = inl (n w running)

  -- no bad run is longer than a burst: of a bad round it is not the last
  there-fine : (b + 1 ≤ BURST) ⊎ ((whole ≡ true) × (b ≤ BURST)) → sink ≡ false → {answer : Answer} → ReceiverStep frames confirm sink whole st answer → IsMiddle confirm frames b whole answer.0
  there-fine room sound (ReceiverStep.stays ended echo) = grind (arith, f, running, ended)
  there-fine room sound (ReceiverStep.faults r fault few) = let idle = λ (w : whole ≡ true). fault-idle w fault in grind (arith, f, r, running, idle)
  there-fine room sound (ReceiverStep.gives_up r fault many) = let idle = λ (w : whole ≡ true). fault-idle w fault in grind (arith, f, r, running, idle, room, many)
  there-fine room sound (ReceiverStep.takes_it fresh other eot) = grind (arith, f, running, fresh)
  there-fine room sound (ReceiverStep.confirms fresh twice eot first) = grind (arith, f, running, fresh)
  there-fine room sound (ReceiverStep.finishes fresh is) = grind (arith, f, running, fresh)
  there-fine room sound (ReceiverStep.breaks fresh failed) = cc
  there-fine room sound (ReceiverStep.is_cancelled r broke) = absurd (subst SenderBroke running broke)

module _ {H : Type 0} (frames : List (Frame H)) (confirm : Confirm) (ends : EndsOnce frames) (source : Bool) (came : List Control) (b : ℕ) (whole : Bool) (st : State) (machine : Invariant confirm frames st) (f : IsMiddle confirm frames b whole st) (running : st.sender ≡ SenderEnd.Running) (sound : source ≡ false)
    (told : (rest : List Control) → came ≡ control.Ack ∷ rest → st.sender ≡ SenderEnd.Running → (st.sent ≡ true) × (st.taken ≡ st.acknowledged + 1)) where
  going : IsGoing st
  going = (subst SenderGoes (sym running) tt, f.goes)

  onward-idle : {position : ℕ} → Onward frames came st position → ReceiverIdle st
  onward-idle (Onward.first unsent asked) = inl unsent
  onward-idle (Onward.next is other) = inr (told _ is.came_is running).1

  -- of a bad round
  back-bad : b + 1 ≤ BURST → came ≢ control.Can ∷ control.Can ∷ [] → {new : State} → Invariant confirm frames new → SenderStep frames source came st new → IsFine confirm frames (b + 1) new
  back-bad short other m (SenderStep.stays cancel_pending ended w) = absurd (ended running)
  back-bad short other m (SenderStep.retries r unhelped few) = grind (arith, m, going, f)
  back-bad short other m (SenderStep.gives_up r unhelped many) = absurd (let x = f.sender_retries in omega (arith, x, short, many))
  back-bad short other m (SenderStep.waits r is alone o calls) = let idle : ReceiverIdle st = inr (told _ is.came_is running).1 in grind (arith, m, going, f, idle)
  back-bad short other m (SenderStep.sends_it r on) = let idle = onward-idle on in grind (arith, m, going, f, idle)
  back-bad short other m (SenderStep.breaks r on failed piece) = cc
  back-bad short other m (SenderStep.finishes r is last) = fine-done confirm frames (b + 1) _ m refl
  back-bad short other m (SenderStep.is_cancelled r cans) = absurd (other cans)

  -- of a whole round
  back-helped : whole ≡ true → b ≤ BURST → {new : State} → Invariant confirm frames new → (step : SenderStep frames source came st new) → kind step ≡ forward → IsFine confirm frames 0 new
  back-helped w few m (SenderStep.sends_it r on) k =
      let o = onward frames confirm ends source came st machine.counters told running on in
      grind (arith, m, going, f, o, w, few)
  back-helped w few m (SenderStep.breaks r on failed piece) k = cc
  back-helped w few m (SenderStep.finishes r is last) k = fine-done confirm frames 0 _ m refl
  back-helped w few m _ k = cc

  back-refused : b ≤ BURST → st.sender_retries ≤ b → st.first_eot ≡ true → st.receiver_retries ≡ 0 → {new : State} → Invariant confirm frames new → (step : SenderStep frames source came st new) → kind step ≡ vain → IsFine confirm frames 0 new
  back-refused few idle first count m (SenderStep.retries r unhelped more) k = grind (arith, m, going, f, few, idle, first, count)
  back-refused few idle first count m (SenderStep.gives_up r unhelped many) k = absurd (omega (arith, many, few, idle))
  back-refused few idle first count m _ k = cc

-- one turn
module _ {H : Type 0} (frames : List (Frame H)) (confirm : Confirm) (ends : EndsOnce frames) (turn : Turn) (b : ℕ) (st : State) (f : IsFine confirm frames b st) (sink : turn.sink_failed ≡ false) (source : turn.source_failed ≡ false) where
  bad-fine : b + 1 ≤ BURST → IsTurnDamage frames confirm turn st → IsFine confirm frames (b + 1) (after_turn frames confirm turn st)
  bad-fine short damage =
      let m = turn-machine frames confirm ends turn st f.machine damage in
      let told = told frames confirm ends turn st f.machine damage in
      let cs = came frames confirm ends turn st f.machine in
      elim (sender-is st f.going) [
        | inl running ↦ (
            let middle = there-fine frames confirm turn.sink_failed turn.whole_there b st f running (inl short) sink (step_there frames confirm ends turn st f.machine) in
            let runs = (keeps frames confirm ends turn st f.machine).sender ∙ running in
            let none = no-cans frames confirm turn.sink_failed turn.whole_there st middle.goes cs damage in
            back-bad frames confirm ends turn.source_failed cs b turn.whole_there _ (mid frames confirm ends turn st f.machine) middle runs source told short none m (step_back frames confirm ends turn st f.machine))
        | inr done ↦ fine-done confirm frames (b + 1) _ m (still-done frames confirm ends turn st f.machine done)
      ]

  pub whole-fine : b ≤ BURST → is_whole turn ≡ true → IsFine confirm frames 0 (after_turn frames confirm turn st)
  whole-fine few whole =
      let damage = whole-damage frames confirm ends turn st f.machine whole in
      let m = turn-machine frames confirm ends turn st f.machine damage in
      let told = told frames confirm ends turn st f.machine damage in
      let cs = came frames confirm ends turn st f.machine in
      let all = (whole-back turn whole).0 in
      let is = whole-came turn whole (answer frames confirm ends turn st f.machine).1 in
      let mid = mid frames confirm ends turn st f.machine in
      let step = step_back frames confirm ends turn st f.machine in
      elim (sender-is st f.going) [
        | inl running ↦ (
            let middle = there-fine frames confirm turn.sink_failed turn.whole_there b st f running (inr (all, few)) sink (step_there frames confirm ends turn st f.machine) in
            let keeps = keeps frames confirm ends turn st f.machine in
            let runs = keeps.sender ∙ running in
            elim (there-whole frames confirm ends turn st f.machine whole running middle.goes) [
              | helped h none ↦ back-helped frames confirm ends turn.source_failed cs b turn.whole_there _ mid middle runs source told all few m step (helped-forward frames turn.source_failed _ _ runs (rw is h) step)
              | refused idle sent first count nak one ↦ (
                  let missed : (answer frames confirm ends turn st f.machine).0.sender_retries ≤ b = let x = f.sender_idle running idle in let k = keeps.sender_retries in omega (arith, x, k) in
                  let vain = refused-vain frames turn.source_failed _ _ runs sent (is ∙ nak) step in
                  back-refused frames confirm ends turn.source_failed cs b turn.whole_there _ mid middle runs source told few missed first count m step vain)
            ])
        | inr done ↦ fine-done confirm frames 0 _ m (still-done frames confirm ends turn st f.machine done)
      ]

-- the run that is on is no longer than the longest
longest-least : (b : ℕ) (turns : List Turn) → b ≤ longest_bad_run b turns
longest-least b [] = omega arith
longest-least b (turn ∷ turns) = on_cond (λ n. b ≤ n) (is_whole turn) (max b (longest_bad_run 0 turns)) (longest_bad_run (b + 1) turns)
    (λ _. omega arith) (λ _. let x = longest-least (b + 1) turns in omega (arith, x))

module _ {H : Type 0} (frames : List (Frame H)) (confirm : Confirm) (ends : EndsOnce frames) where
  -- one turn of such a list
  pub one-fine : (turn : Turn) (turns : List Turn) (b : ℕ) (st : State) → IsFine confirm frames b st → longest_bad_run b (turn ∷ turns) ≤ BURST → turn.sink_failed ≡ false → turn.source_failed ≡ false → IsTurnDamage frames confirm turn st
      → (next : ℕ) × IsFine confirm frames next (after_turn frames confirm turn st) × (longest_bad_run next turns ≤ BURST)
  one-fine turn turns b st f few sink source damage = go (is_whole turn) refl few
    where
      go : (w : Bool) → is_whole turn ≡ w → cond w (max b (longest_bad_run 0 turns)) (longest_bad_run (b + 1) turns) ≤ BURST → (next : ℕ) × IsFine confirm frames next (after_turn frames confirm turn st) × (longest_bad_run next turns ≤ BURST)
      go true e l = (0, whole-fine frames confirm ends turn b st f sink source (omega (arith, l)) e, omega (arith, l))
      go false e l = (b + 1, bad-fine frames confirm ends turn b st f sink source (let x = longest-least (b + 1) turns in omega (arith, x, l)) damage, l)

  -- all of them
  pub turns-fine : (turns : List Turn) (b : ℕ) (st : State) → IsFine confirm frames b st → longest_bad_run b turns ≤ BURST → NoFailure turns → IsDamage frames confirm turns st
      → (last : ℕ) × IsFine confirm frames last (after_turns frames confirm turns st) × (last ≤ BURST)
  turns-fine [] b st f few none damage = (b, f, few)
  turns-fine (turn ∷ turns) b st f few none damage =
      let one = one-fine turn turns b st f few none.0 none.1 damage.0 in
      turns-fine turns one.0 (after_turn frames confirm turn st) one.1 one.2 none.2 damage.1

  pub start-fine : IsFine confirm frames 0 start
  start-fine = let machine = start-machine frames confirm ends SenderEnd.Running (λ w. cc) in grind (arith, machine)
