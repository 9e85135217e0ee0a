-- no round raises the rounds remaining, and each whole round lowers them by one
use Rattle.std.proofs.Common.{ℕ, ◌+◌, ◌-◌, ◌<◌, ◌≡◌, ◌≢◌, ◌==◌, suc, zero, List, [], ◌∷◌, ◌++◌, length, Bool, true, false, refl, sym, ap, ◌∙◌, subst, arith, cond, add-one, sum_by}
use Rattle.std.proofs.lemmas.Bool.Decides.{nat_tests}
use Rattle.std.proofs.lemmas.List.Sums.{sum_by-cons}
use Rattle.ym_machine.proofs.Names.{Control, Confirm, Twice, EndBlock, EndsOnce, Eot, File, Frame, Piece, frame_at, frame_before, frames_of, numbered_from, ReceiverEnd, SenderEnd, State, start, Answer, asks_again, controls, holds_start, ReceiverGoes, rounds_remaining, rounds_needed, CallsForStart, CountersAgree}
use Rattle.ym_frame.specs.declared.control.Control.TheVariants as control
use Rattle.ym_machine.proofs.MachineStates.{below, onward}
use Rattle.ym_machine.proofs.Positions.{none_behind}
use Rattle.ym_machine.proofs.ReceiverSteps.{IsEcho, IsFault, IsFresh, ReceiverStep, confirmation}
use Rattle.ym_machine.proofs.SenderSteps.{Onward, SenderStep, helps}
use Rattle.ym_machine.specs.ShortBursts.{SenderIdle}
use Rattle.ym_machine.specs.RoundsRemaining.{left_at, left_unfinished, needed_by, weight, weights, weights_from}

-- ---- Weights

weights-suc : {H : Type 0} (confirm : Confirm) (frames : List (Frame H)) (i : ℕ) → i < length frames → weights_from confirm frames i ≡ weight confirm (frame_at frames i) + weights_from confirm frames (suc i)
weights-suc confirm [] i below = absurd (omega arith)
weights-suc confirm (frame ∷ frames) zero below = refl
weights-suc confirm (frame ∷ frames) (suc i) below = weights-suc confirm frames i (omega arith)

weights-step : {H : Type 0} (confirm : Confirm) (frames : List (Frame H)) (i : ℕ) → i < length frames → weights_from confirm frames i ≡ weight confirm (frame_at frames i) + weights_from confirm frames (i + 1)
weights-step confirm frames i below = rw add-one (weights-suc confirm frames i below)

weights-end : {H : Type 0} (confirm : Confirm) (frames : List (Frame H)) → weights_from confirm frames (length frames) ≡ 0
weights-end confirm [] = refl
weights-end confirm (frame ∷ frames) = weights-end confirm frames

weights-pieces : {H : Type 0} (confirm : Confirm) (k : ℕ) (pieces : List (List ℕ)) (rest : List (Frame H)) → weights confirm (numbered_from k pieces ++ rest) ≡ length pieces + weights confirm rest
weights-pieces confirm k [] rest = omega arith
weights-pieces confirm k (piece ∷ pieces) rest = let x = weights-pieces confirm (k + 1) pieces rest in grind (arith, x)

weights-frames : {H : Type 0} (confirm : Confirm) (files : List (File H)) → weights confirm (frames_of files) ≡ sum_by (needed_by confirm) files + 1
weights-frames confirm [] = grind arith
weights-frames confirm (file ∷ files) =
    let x = weights-pieces confirm 1 file.pieces (Eot ∷ frames_of files) in let z = weights-frames confirm files in let s = sum_by-cons (needed_by confirm) file files in grind (arith, x, z, s)

pub left-start : {H : Type 0} (confirm : Confirm) (files : List (File H)) → rounds_remaining confirm (frames_of files) start ≡ rounds_needed confirm files
left-start confirm files = let x = weights-frames confirm files in omega (arith, x)

-- ---- The rounds remaining, of the four fields that they read

pub left_of : {H : Type 0} → Confirm → List (Frame H) → Bool → ℕ → ℕ → Bool → ℕ
left_of confirm frames sent taken acknowledged first = left_unfinished confirm frames (record start { acknowledged = acknowledged; taken = taken; sent = sent; first_eot = first })

abbrev pub left_in : {H : Type 0} → Confirm → List (Frame H) → State → ℕ
left_in confirm frames st = left_of confirm frames st.sent st.taken st.acknowledged st.first_eot

pub left-done : {H : Type 0} (confirm : Confirm) (frames : List (Frame H)) (st : State) → st.sender ≡ SenderEnd.Finished → rounds_remaining confirm frames st ≡ 0
left-done confirm frames st done = ap (λ x. left_at confirm frames x st) done

pub left-is : {H : Type 0} (confirm : Confirm) (frames : List (Frame H)) (st : State) → st.sender ≢ SenderEnd.Finished → rounds_remaining confirm frames st ≡ left_in confirm frames st
unfolding left_of
left-is confirm frames st other = grind arith

module _ {H : Type 0} (confirm : Confirm) (frames : List (Frame H)) where
  waiting-left : (sent : Bool) (taken acknowledged : ℕ) (first : Bool) → sent ≡ false → left_of confirm frames sent taken acknowledged first ≡ weights_from confirm frames acknowledged + 1
  unfolding left_of
  waiting-left sent taken acknowledged first unsent = rw unsent refl

  fresh-left : (sent : Bool) (taken acknowledged : ℕ) (first : Bool) → sent ≡ true → taken ≡ acknowledged → left_of confirm frames sent taken acknowledged first ≡ weights_from confirm frames acknowledged - cond first 1 0
  unfolding left_of
  fresh-left sent taken acknowledged first is_sent at = let same : (taken == acknowledged) ≡ true = grind (arith, nat_tests) in rw (is_sent, same) refl

  again-left : (sent : Bool) (taken acknowledged : ℕ) (first : Bool) → sent ≡ true → taken ≡ acknowledged + 1 → left_of confirm frames sent taken acknowledged first ≡ weights_from confirm frames (acknowledged + 1) + 1
  unfolding left_of
  again-left sent taken acknowledged first is_sent at = let other : (taken == acknowledged) ≡ false = grind (arith, nat_tests) in rw (is_sent, other) refl

-- ---- The receiver step

-- a first EOT is a round's work
abbrev pub taken_on : {H : Type 0} {frames : List (Frame H)} {confirm : Confirm} {sink whole : Bool} {st : State} {answer : Answer} → ReceiverStep frames confirm sink whole st answer → ℕ
taken_on (ReceiverStep.confirms fresh twice eot first) = 1
taken_on _ = 0

module _ {H : Type 0} (frames : List (Frame H)) (confirm : Confirm) (sink whole : Bool) (st : State) (m : CountersAgree confirm frames st) where
  -- a frame that is taken counts once, beside a first EOT
  weighs : st.taken ≡ st.acknowledged → (frame_at frames st.acknowledged ≡ Eot → confirm ≡ Twice → st.first_eot ≡ true) → weight confirm (frame_at frames st.acknowledged) ≡ 1 + cond st.first_eot 1 0
  weighs at eot = grind arith

  took : IsFresh st → (first : Bool) → weight confirm (frame_at frames st.acknowledged) ≡ 1 + cond st.first_eot 1 0 → left_of confirm frames st.sent (st.taken + 1) st.acknowledged first + 0 ≡ left_in confirm frames st
  took fresh first w =
      let old = fresh-left confirm frames st.sent st.taken st.acknowledged st.first_eot fresh.sent fresh.at in
      let new = again-left confirm frames st.sent (st.taken + 1) st.acknowledged first fresh.sent (ap (λ n. n + 1) fresh.at) in
      let s = weights-step confirm frames st.acknowledged (below m fresh.sending) in
      omega (arith, old, new, s, w)

  pub there-left : st.sender ≡ SenderEnd.Running → {answer : Answer} (step : ReceiverStep frames confirm sink whole st answer) → left_in confirm frames answer.0 + taken_on step ≡ left_in confirm frames st
  there-left running (ReceiverStep.takes_it fresh other eot) = took fresh false (weighs fresh.at eot)
  there-left running (ReceiverStep.finishes fresh is) = took fresh st.first_eot (weighs fresh.at (λ e. let x : EndBlock ≡ Eot = sym is ∙ e in cc))
  there-left running (ReceiverStep.confirms fresh twice eot first) =
      let old = fresh-left confirm frames st.sent st.taken st.acknowledged st.first_eot fresh.sent fresh.at in
      let new = fresh-left confirm frames st.sent st.taken st.acknowledged true fresh.sent fresh.at in
      let s = weights-step confirm frames st.acknowledged (below m running) in
      let two : weight confirm (frame_at frames st.acknowledged) ≡ 2 = rw (twice, eot) refl in
      grind (arith, old, new, s, two, first)
  there-left running _ = omega arith

-- ---- The sender step

-- what a sender step is to the sender
pub data Kind : Type 0 where
  vain : Kind
  forward : Kind
  aside : Kind

abbrev pub kind : {H : Type 0} {frames : List (Frame H)} {source : Bool} {came : List Control} {st new : State} → SenderStep frames source came st new → Kind
kind (SenderStep.retries running unhelped few) = vain
kind (SenderStep.gives_up running unhelped many) = vain
kind (SenderStep.sends_it running on) = forward
kind (SenderStep.breaks running on failed piece) = forward
kind (SenderStep.finishes running is last) = forward
kind _ = aside

abbrev pub worth : Kind → ℕ
worth forward = 1
worth _ = 0

module _ {H : Type 0} (frames : List (Frame H)) (confirm : Confirm) (ends : EndsOnce frames) (source : Bool) (came : List Control) (st : State) (m : CountersAgree confirm frames st) (told : (rest : List Control) → came ≡ control.Ack ∷ rest → st.sender ≡ SenderEnd.Running → (st.sent ≡ true) × (st.taken ≡ st.acknowledged + 1)) (running : st.sender ≡ SenderEnd.Running) where
  on-left : {position : ℕ} → Onward frames came st position → left_in confirm frames st ≡ weights_from confirm frames position + 1
  on-left (Onward.first unsent asked) = waiting-left confirm frames st.sent st.taken st.acknowledged st.first_eot unsent
  on-left (Onward.next is other) = again-left confirm frames st.sent st.taken st.acknowledged st.first_eot is.sent (told _ is.came_is running).1

  sent-left : {position : ℕ} (end : SenderEnd) (cancel_pending : Bool) → end ≢ SenderEnd.Finished → Onward frames came st position
      → rounds_remaining confirm frames (record st { acknowledged = position; sent = true; sender_retries = 0; sender = end; cancel_pending = cancel_pending }) + 1 ≡ left_in confirm frames st
  sent-left {position} end cancel_pending other on =
      let l = left-is confirm frames (record st { acknowledged = position; sent = true; sender_retries = 0; sender = end; cancel_pending = cancel_pending }) other in
      let o = onward frames confirm ends source came st m told running on in
      let old = on-left on in
      let fresh = fresh-left confirm frames true st.taken position st.first_eot refl o.0 in
      grind (arith, o, l, old, fresh)

  pub back-left : {new : State} (step : SenderStep frames source came st new) → rounds_remaining confirm frames new + worth (kind step) ≡ left_in confirm frames st
  back-left (SenderStep.stays cancel_pending ended w) = absurd (ended running)
  back-left (SenderStep.waits r is alone other calls) =
      let l = left-is confirm frames (record st { acknowledged = st.acknowledged + 1; sent = false; sender_retries = 0 }) (λ w. cc) in
      let new = waiting-left confirm frames false st.taken (st.acknowledged + 1) st.first_eot refl in
      let old = on-left (Onward.next is other) in
      omega (arith, l, new, old)
  back-left (SenderStep.sends_it r on) = sent-left st.sender st.cancel_pending (λ w. cc) on
  back-left (SenderStep.breaks r on failed piece) = sent-left SenderEnd.SourceFailed true (λ w. cc) on
  back-left (SenderStep.finishes r is last) =
      let old = again-left confirm frames st.sent st.taken st.acknowledged st.first_eot is.sent (told _ is.came_is running).1 in
      let end : weights_from confirm frames (st.acknowledged + 1) ≡ 0 = ap (weights_from confirm frames) (none_behind frames st.acknowledged ends (below m running) last) ∙ weights-end confirm frames in
      omega (arith, old, end)
  back-left {new} _ = let l = left-is confirm frames new (λ w. cc) in omega (arith, l)

-- ---- A whole round

-- these control bytes bring a sender at this frame a step further
pub record IsHelped {H : Type 0} (sent : Bool) (frame : Frame H) (came : List Control) : Type 0 where
  pub helped : helps sent came ≡ true
  pub starts : (rest : List Control) → came ≡ control.Ack ∷ rest → CallsForStart frame → frame ≢ EndBlock → holds_start rest ≡ true

confirmation-helps : {H : Type 0} (sent : Bool) (frame : Frame H) → sent ≡ true → frame ≢ EndBlock → IsHelped sent frame (controls (confirmation frame))
confirmation-helps sent (Piece number body) is other = record { helped = rw is refl; starts = λ rest e calls _. absurd calls }
confirmation-helps sent EndBlock is other = absurd (other refl)
confirmation-helps sent _ is other = record { helped = rw is refl; starts = λ rest e _ _. let x : control.Start ∷ [] ≡ rest = cc in ap holds_start (sym x) }

ack-helps : {H : Type 0} (sent : Bool) (frame : Frame H) → sent ≡ true → frame ≡ EndBlock → IsHelped sent frame (control.Ack ∷ [])
ack-helps sent frame is last = record { helped = rw is refl; starts = λ rest e _ other. absurd (other last) }

asks-helps : {H : Type 0} (sent : Bool) (frame before : Frame H) → sent ≡ false → CallsForStart before → IsHelped sent frame (controls (asks_again before))
asks-helps sent frame (Piece number body) is calls = absurd calls
asks-helps sent frame _ is calls = record { helped = rw is refl; starts = λ rest e. cc }

pub data WholeThere {H : Type 0} (frames : List (Frame H)) (confirm : Confirm) (st : State) (gain : ℕ) (answer : Answer) : Type 0 where
  helped : IsHelped answer.0.sent (frame_at frames answer.0.acknowledged) (controls answer.1) → gain ≡ 0 → WholeThere frames confirm st gain answer
  refused : SenderIdle confirm frames st → answer.0.sent ≡ true → answer.0.first_eot ≡ true → answer.0.receiver_retries ≡ 0 → controls answer.1 ≡ control.Nak ∷ [] → gain ≡ 1 → WholeThere frames confirm st gain answer

module _ {H : Type 0} (frames : List (Frame H)) (confirm : Confirm) (ends : EndsOnce frames) (sink whole : Bool) (is_whole : whole ≡ true) (st : State) (m : CountersAgree confirm frames st)
    (running : st.sender ≡ SenderEnd.Running) where
  full : st.receiver ≡ ReceiverEnd.Finished → (st.sent ≡ true) × (st.taken ≡ st.acknowledged + 1) × (frame_at frames st.acknowledged ≡ EndBlock)
  full done =
      let at : st.taken ≡ st.acknowledged + 1 = let x = m.receiver_done.1 done in let y = below m running in let a = m.ahead in omega (arith, x, y, a) in
      (grind arith, at, ends.last st.acknowledged (sym at ∙ m.receiver_done.1 done))

  other-behind : st.receiver ≡ ReceiverEnd.Running → st.taken ≢ st.acknowledged → frame_at frames st.acknowledged ≢ EndBlock
  other-behind receiving apart last =
      let n = none_behind frames st.acknowledged ends (below m running) last in
      let a = m.ahead in
      let x = m.receiver_done.0 (omega (arith, n, a, apart)) in cc

  pub whole-there : {answer : Answer} (step : ReceiverStep frames confirm sink whole st answer) → ReceiverGoes answer.0.receiver → WholeThere frames confirm st (taken_on step) answer
  whole-there (ReceiverStep.stays ended (IsEcho.repeats done sending sent at)) goes = helped (ack-helps st.sent (frame_at frames st.acknowledged) sent (full done).2) refl
  whole-there (ReceiverStep.stays ended (IsEcho.silent n)) goes = let done : st.receiver ≡ ReceiverEnd.Finished = grind (arith, ended, goes) in let f = full done in absurd (n is_whole done running f.0 f.1)
  whole-there (ReceiverStep.faults receiving (IsFault.again sending sent apart) few) goes = helped (confirmation-helps st.sent (frame_at frames st.acknowledged) sent (other-behind receiving apart)) refl
  whole-there (ReceiverStep.faults receiving (IsFault.bad n) few) goes =
      let w = m.waiting (n is_whole running) in
      helped (asks-helps st.sent (frame_at frames st.acknowledged) (frame_before frames st.taken) (n is_whole running) (subst (λ i. CallsForStart (frame_before frames i)) (sym w.0) w.1)) refl
  whole-there (ReceiverStep.takes_it fresh other eot) goes = helped (confirmation-helps st.sent (frame_at frames st.acknowledged) fresh.sent other) refl
  whole-there (ReceiverStep.confirms fresh twice eot first) goes = refused (record { twice = twice; sent = fresh.sent; at = fresh.at; eot = eot; first = first }) fresh.sent refl refl refl refl
  whole-there (ReceiverStep.finishes fresh is) goes = helped (ack-helps st.sent (frame_at frames st.acknowledged) fresh.sent is) refl
  whole-there _ goes = absurd goes

module _ {H : Type 0} (frames : List (Frame H)) (source : Bool) (came : List Control) (st : State) (running : st.sender ≡ SenderEnd.Running) where
  pub helped-forward : IsHelped st.sent (frame_at frames st.acknowledged) came → {new : State} (step : SenderStep frames source came st new) → kind step ≡ forward
  helped-forward h (SenderStep.stays cancel_pending ended w) = absurd (ended running)
  helped-forward h (SenderStep.retries r unhelped few) = let x = h.helped in cc
  helped-forward h (SenderStep.gives_up r unhelped many) = let x = h.helped in cc
  helped-forward h (SenderStep.waits r is alone other calls) = let x = h.starts _ is.came_is calls other in cc
  helped-forward h (SenderStep.is_cancelled r cans) = let x = h.helped in grind (arith, x, cans)
  helped-forward h _ = refl

  on-no-nak : st.sent ≡ true → came ≡ control.Nak ∷ [] → {position : ℕ} → Onward frames came st position → ⊥
  on-no-nak sent is (Onward.first unsent asked) = cc
  on-no-nak sent is (Onward.next a other) = let x = a.came_is in cc

  pub refused-vain : st.sent ≡ true → came ≡ control.Nak ∷ [] → {new : State} (step : SenderStep frames source came st new) → kind step ≡ vain
  refused-vain sent is (SenderStep.stays cancel_pending ended w) = absurd (ended running)
  refused-vain sent is (SenderStep.waits r a alone other calls) = let x = a.came_is in cc
  refused-vain sent is (SenderStep.sends_it r on) = absurd (on-no-nak sent is on)
  refused-vain sent is (SenderStep.breaks r on failed piece) = absurd (on-no-nak sent is on)
  refused-vain sent is (SenderStep.finishes r a last) = let x = a.came_is in cc
  refused-vain sent is (SenderStep.is_cancelled r cans) = cc
  refused-vain sent is _ = refl

-- ---- While the sender runs, rounds remain

pub left-some : {H : Type 0} (frames : List (Frame H)) (confirm : Confirm) (st : State) → CountersAgree confirm frames st → st.sender ≡ SenderEnd.Running → 0 < rounds_remaining confirm frames st
left-some frames confirm st m running = let s = weights-step confirm frames st.acknowledged (below m running) in grind (arith, nat_tests, s)
