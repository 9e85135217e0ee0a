-- A run: turn after turn, with what is said and replied at each.
use Rattle.std.specs.Prelude.{ℕ, ◌+◌, ◌≡◌, ◌&&◌, List, [], ◌∷◌, ◌++◌, replicate, Bool, true, false, if◌then◌else◌, max, Option, None, Some, is_none}
use Rattle.ym_frame.specs.declared.control.Control.{Control}
use Rattle.ym_frame.specs.declared.control.Reply.{Reply}
use Rattle.ym_machine.specs.declared.confirm.Confirm.{Confirm}
use Rattle.ym_machine.specs.declared.limits.TheConstants.{BURST}
use Rattle.ym_machine.specs.Frames.{Frame}
use Rattle.ym_machine.specs.State.{State, Speech, said}
use Rattle.ym_machine.specs.Steps.{Answer, receiver_step, sender_step, controls, is_within}

-- what a round does to its two deliveries, and the two truths
pub record Turn : Type 0 where
  pub whole_there : Bool  -- the delivery there comes whole; else the receiver hears no frame
  -- the control bytes that come back; None where the reply comes whole
  pub back : Option (List Control)
  pub sink_failed : Bool
  pub source_failed : Bool

abbrev pub came_back : Option (List Control) → Reply → List Control
came_back None reply = controls reply
came_back (Some came) reply = came

-- the receiver step of a turn
abbrev pub answer_of : {H : Type 0} → List (Frame H) → Confirm → Turn → State → Answer
answer_of frames confirm turn st = receiver_step frames confirm turn.sink_failed turn.whole_there st

-- a turn is the receiver step and then the sender step
abbrev pub after_turn : {H : Type 0} → List (Frame H) → Confirm → Turn → State → State
after_turn frames confirm turn st =
    let answer = answer_of frames confirm turn st in
    sender_step frames turn.source_failed (came_back turn.back answer.1) answer.0

-- the state after all turns
abbrev pub after_turns : {H : Type 0} → List (Frame H) → Confirm → List Turn → State → State
after_turns frames confirm [] st = st
after_turns frames confirm (turn ∷ turns) st =
    after_turns frames confirm turns (after_turn frames confirm turn st)

-- what a turn leaves in the trace: what the sender had to send, and the reply before loss or damage
pub record Entry : Type 0 where
  pub said : Speech
  pub reply : Reply

abbrev pub entry_of : {H : Type 0} → List (Frame H) → Confirm → Turn → State → Entry
entry_of frames confirm turn st =
    record { said = said st; reply = (answer_of frames confirm turn st).1 }

-- the trace: an entry for each turn
abbrev pub entries_of : {H : Type 0} → List (Frame H) → Confirm → List Turn → State → List Entry
entries_of frames confirm [] st = []
entries_of frames confirm (turn ∷ turns) st =
    entry_of frames confirm turn st ∷
    entries_of frames confirm turns (after_turn frames confirm turn st)

-- the control bytes that come back are those of the reply, with some of them left out
abbrev pub IsTurnDamage : {H : Type 0} → List (Frame H) → Confirm → Turn → State → Type 0
IsTurnDamage frames confirm turn st =
    is_within
    (came_back turn.back (receiver_step frames confirm turn.sink_failed turn.whole_there st).1)
    (controls (receiver_step frames confirm turn.sink_failed turn.whole_there st).1) ≡ true

-- so they are at every turn
abbrev pub IsDamage : {H : Type 0} → List (Frame H) → Confirm → List Turn → State → Type 0
IsDamage frames confirm [] st = Unit {0}
IsDamage frames confirm (turn ∷ turns) st =
    IsTurnDamage frames confirm turn st ×
    IsDamage frames confirm turns (after_turn frames confirm turn st)

-- neither the sink nor the source fails
abbrev pub NoFailure : List Turn → Type 0
NoFailure [] = Unit {0}
NoFailure (turn ∷ turns) =
    (turn.sink_failed ≡ false) × (turn.source_failed ≡ false) × NoFailure turns

-- both deliveries are whole
abbrev pub is_whole : Turn → Bool
is_whole turn = turn.whole_there && is_none turn.back

abbrev pub AllWhole : List Turn → Type 0
AllWhole [] = Unit {0}
AllWhole (turn ∷ turns) = (is_whole turn ≡ true) × AllWhole turns

-- how many turns are whole
abbrev pub whole_turns : List Turn → ℕ
whole_turns [] = 0
whole_turns (turn ∷ turns) = if is_whole turn then whole_turns turns + 1 else whole_turns turns

-- the length of the longest bad run, in which no turn is whole, where so many bad turns went before
abbrev pub longest_bad_run : ℕ → List Turn → ℕ
longest_bad_run before [] = before
longest_bad_run before (turn ∷ turns) =
    if is_whole turn then max before (longest_bad_run 0 turns)
    else longest_bad_run (before + 1) turns

-- a turn whose two deliveries are whole
abbrev pub whole : Turn
whole = record { whole_there = true; back = None; sink_failed = false; source_failed = false }

-- a turn whose two deliveries are lost
abbrev pub lost : Turn
lost = record { whole_there = false; back = Some []; sink_failed = false; source_failed = false }

-- two bad runs that are one round longer than a burst, each with a whole turn behind it
abbrev pub five_and_five : List Turn
five_and_five = replicate (BURST + 1) lost ++ whole ∷ replicate (BURST + 1) lost ++ whole ∷ []
