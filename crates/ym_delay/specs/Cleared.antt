-- A sender that lets the line clear before it goes on from a frame that it wrote more than once.
-- What was written is then answered, or too old, whatever either end waits for.
use Rattle.std.specs.Prelude.{◌≡◌, ◌⊎◌, ◌+◌, ◌<◌, ◌≤◌, ℕ, zero, suc, List, [], ◌∷◌}
use Rattle.ym_frame.specs.declared.control.Control.{Control}
use Rattle.ym_frame.specs.declared.control.Control.TheVariants as control
use Rattle.ym_frame.specs.declared.control.Reply.{Reply}
use Rattle.ym_frame.specs.declared.control.Reply.TheVariants as reply
use Rattle.ym_core.specs.Scan.{controls_in}
use Rattle.ym_core.specs.declared.delivery.Heard.TheVariants.{Bad}
use Rattle.ym_core.specs.declared.state.SendState.TheVariants as state
use Rattle.ym_link.specs.Sender.{SenderParts}
use Rattle.ym_pair.specs.Logs.{Answered, Spoke}
use Rattle.ym_pair.specs.Pairing.{up_to_start}
use Rattle.ym_delay.specs.TimedLine.{AnsweredAt, BringsBack, SenderInVain, SpokeAt, Takes, Times}

-- ---- What either end says to what it heard

abbrev pub HasAck : List Control → Type 0
HasAck [] = ⊥
HasAck (control.Ack ∷ more) = Unit {0}
HasAck (other ∷ more) = HasAck more

-- there is an ACK in what a sender reads of a delivery
abbrev pub ReadsAck : List ℕ → Type 0
ReadsAck came = HasAck (up_to_start (controls_in came))

abbrev pub HasCan : List Control → Type 0
HasCan [] = ⊥
HasCan (control.Can ∷ more) = Unit {0}
HasCan (other ∷ more) = HasCan more

abbrev pub ReadsCan : List ℕ → Type 0
ReadsCan came = HasCan (up_to_start (controls_in came))

-- A sender writes the same again until it has read an ACK. As long as it has nothing to say it may
-- say anything next, and at last it may give up a wait, or be cancelled.
abbrev pub SaysAgain : List Spoke → List ℕ → Type 0
SaysAgain [] last = Unit {0}
SaysAgain (s ∷ []) last =
    (last ≡ s.wrote)
    ⊎ (ReadsAck s.came ⊎ ((s.wrote ≡ []) ⊎ ((s.came ≡ []) ⊎ ReadsCan s.came)))
SaysAgain (s ∷ next ∷ spoke) last =
    ((next.wrote ≡ s.wrote) ⊎ (ReadsAck s.came ⊎ (s.wrote ≡ []))) × SaysAgain (next ∷ spoke) last

abbrev pub IsAck : Reply → Type 0
IsAck reply.Ack = Unit {0}
IsAck reply.AckStart = Unit {0}
IsAck _ = ⊥

-- as long as it hears the same frame, or none, it says to that frame what it said before
abbrev pub AcksAgain : Answered → List Answered → Type 0
AcksAgain a [] = Unit {0}
AcksAgain a (b ∷ answered) =
    (b.heard ≡ Bad → AcksAgain a answered)
    × (b.heard ≡ a.heard → (b.wrote ≡ a.wrote) × AcksAgain a answered)

-- A receiver says ACK to a frame alone, and the same once more where that frame comes again. Behind
-- CAN CAN it says nothing more.
abbrev pub AnswersAlike : List Answered → Type 0
AnswersAlike [] = Unit {0}
AnswersAlike (a ∷ answered) =
    (IsAck a.wrote → (a.heard ≡ Bad → ⊥) × AcksAgain a answered)
    × (a.wrote ≡ reply.Cancel → answered ≡ []) × AnswersAlike answered

-- ---- How either end ends

-- its last wait was in vain, if there was one
abbrev pub EndsInVain : List Spoke → Type 0
EndsInVain [] = Unit {0}
EndsInVain (s ∷ []) = s.came ≡ []
EndsInVain (s ∷ next ∷ spoke) = EndsInVain (next ∷ spoke)

-- it did not give up at an ask
abbrev pub EndsWell : SenderParts → List Spoke → Type 0
EndsWell new spoke = new.standing.state ≡ state.NoReply → EndsInVain spoke

-- ---- The line clears

-- all that may answer this write has come, or is too old, when the next one is written
abbrev pub IsOver : Times → SpokeAt → SpokeAt → Type 0
IsOver times s next = s.at + times.oldest + times.receiver_acts + times.oldest ≤ next.at

-- when something came last: as this read ended, or before it
abbrev pub led_by : List ℕ → ℕ → ℕ → ℕ
led_by [] by led = led
led_by (byte ∷ came) by led = by

-- Something came, and so soon behind what came before that the receiver did not wait in vain
-- meanwhile: it answers this write.
pub record IsSoon (times : Times) (led : ℕ) (s : SpokeAt) : Type 0 where
  pub some : s.spoke.came ≡ [] → ⊥
  pub soon : s.by + times.oldest ≤ led + times.receiver_waits

-- As many ACKs came behind this one as the frame had copies, and were dropped: each copy has its
-- own. The sender goes on to another frame.
pub record IsCounted (more dropped : ℕ) (s next : SpokeAt) : Type 0 where
  pub acked : ReadsAck s.spoke.came
  pub other : next.spoke.wrote ≡ s.spoke.wrote → ⊥
  pub each : more ≤ dropped

-- What is written next is alone under way: it is another frame, or the write before it is over, or
-- answered. Where that had copies, so many, they are over, or answered, or it was nothing.
abbrev pub IsAlone : Times → ℕ → ℕ → ℕ → SpokeAt → SpokeAt → Type 0
IsAlone times led zero dropped s next =
    next.spoke.wrote ≡ s.spoke.wrote → IsOver times s next ⊎ IsSoon times led s
IsAlone times led (suc more) dropped s next =
    (s.spoke.wrote ≡ []) ⊎ (IsOver times s next ⊎ IsCounted (suc more) dropped s next)

-- how many ACKs are dropped behind the first of the reads, and behind the others
abbrev pub first_of : List ℕ → ℕ
first_of [] = 0
first_of (dropped ∷ others) = dropped

abbrev pub others_of : List ℕ → List ℕ
others_of [] = []
others_of (dropped ∷ others) = others

-- Each write is alone under way, or one more copy of the one before it. When something came last,
-- and how many copies there were before the first of these, is given; so is how many ACKs are
-- dropped behind each read.
abbrev pub ClearsFrom : Times → ℕ → ℕ → List ℕ → List SpokeAt → Type 0
ClearsFrom times led more drops [] = Unit {0}
ClearsFrom times led more drops (s ∷ []) = Unit {0}
ClearsFrom times led more drops (s ∷ next ∷ spoke) =
    (IsAlone times led more (first_of drops) s next
    × ClearsFrom times (led_by s.spoke.came s.by led) 0 (others_of drops) (next ∷ spoke))
    ⊎ ((next.spoke.wrote ≡ s.spoke.wrote)
    × ClearsFrom times (led_by s.spoke.came s.by led) (suc more) (others_of drops) (next ∷ spoke))

-- ---- What is dropped meanwhile

-- it was written before the next write
abbrev pub IsBefore : AnsweredAt → List SpokeAt → Type 0
IsBefore a [] = ⊥
IsBefore a (next ∷ spoke) = a.at < next.at

-- so many of these replies, each an ACK, are dropped before the next write, and those left are
-- behind them
abbrev pub Drops : List SpokeAt → ℕ → List AnsweredAt → List AnsweredAt → Type 0
Drops spoke zero answered left = left ≡ answered
Drops spoke (suc n) answered left =
    (one : AnsweredAt) × (behind : List AnsweredAt) × Takes answered one behind
    × IsAck one.answered.wrote × IsBefore one spoke × Drops spoke n behind left

-- to a sender that drops so many ACKs behind each of its reads
abbrev pub HandsLeft : Times → List ℕ → List AnsweredAt → List SpokeAt → Type 0
HandsLeft times drops answered [] = Unit {0}
HandsLeft times drops answered (s ∷ spoke) =
    (SenderInVain times s × HandsLeft times (others_of drops) answered spoke)
    ⊎ ((one : AnsweredAt) × (behind : List AnsweredAt) × Takes answered one behind
    × BringsBack times one s × (left : List AnsweredAt)
    × Drops spoke (first_of drops) behind left × HandsLeft times (others_of drops) left spoke)

pub record CountsDropped (times : Times) (spoke : List SpokeAt) (answered : List AnsweredAt) :
    Type 0 where
  pub drops : List ℕ
  pub back : HandsLeft times drops answered spoke
  pub clears : ClearsFrom times 0 0 drops spoke

-- so a sender lets the line clear: by time alone, or it counts what it drops too
abbrev pub LetsClear : Times → List SpokeAt → List AnsweredAt → Type 0
LetsClear times spoke answered =
    ClearsFrom times 0 0 [] spoke ⊎ CountsDropped times spoke answered
