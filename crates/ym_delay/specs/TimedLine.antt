-- A line with time in it, and two ends that wait on it. Moments are numbers of any unit, of one
-- clock that both ends are measured by.
--
-- Nothing that an end hears is older than a given time, and an end acts within another. That this
-- is so of a line is a premise about the world. What follows from it is proved.
use Rattle.std.specs.Prelude.{◌≡◌, ◌⊎◌, ◌+◌, ◌<◌, ◌≤◌, ℕ, List, [], ◌∷◌, ◌++◌, map}
use Rattle.ym_core.specs.declared.delivery.Heard.TheVariants.{Bad}
use Rattle.ym_link.specs.ReceiverInto.{ReceiverParts}
use Rattle.ym_link.specs.Sender.{SenderParts}
use Rattle.ym_link.specs.Sender as sender
use Rattle.ym_link.specs.SendOver.{written_for}
use Rattle.ym_line.specs.declared.delivery.Delivery.{Delivery}
use Rattle.ym_pair.specs.Logs.{Spoke, Answered, spoke_along, answered_along}
use Rattle.ym_pair.specs.Pairing.{AreCalls, ArrivesThere, ArrivesBack}

-- ---- What an end did, and when

-- a sender wrote at the one moment, and its read ended at the other
pub record SpokeAt : Type 0 where
  pub spoke : Spoke
  pub at : ℕ
  pub by : ℕ

-- a receiver's read began and ended, and then it wrote its reply
pub record AnsweredAt : Type 0 where
  pub answered : Answered
  pub from : ℕ
  pub by : ℕ
  pub at : ℕ

-- bytes, and the moment at which they were written
pub record WroteAt : Type 0 where
  pub bytes : List ℕ
  pub at : ℕ

abbrev pub wrote : SpokeAt → WroteAt
wrote one = record { bytes = one.spoke.wrote; at = one.at }

-- all that a sender wrote, its last words behind the others
abbrev pub written : List SpokeAt → WroteAt → List WroteAt
written spoke last = map wrote spoke ++ last ∷ []

-- ---- How long things take

pub record Times : Type 0 where
  pub oldest : ℕ  -- nothing that an end hears was written longer ago
  pub sender_acts : ℕ  -- a sender writes within this time, the line's clearing among it
  pub receiver_acts : ℕ  -- and so does a receiver, which may have to store what it heard too
  pub sender_waits : ℕ  -- a sender that hears nothing waited so long at least
  pub receiver_waits : ℕ  -- and so did a receiver

-- The way there and back, and the peer's acting, take no longer than a sender waits, and less time
-- than a receiver does.
pub record IsPrompt (times : Times) : Type 0 where
  pub sender : times.oldest + times.receiver_acts + times.oldest ≤ times.sender_waits
  pub receiver : times.oldest + times.sender_acts + times.oldest < times.receiver_waits

-- A sender goes on from this moment: it writes within its time to act, and then reads, one after
-- another; its last words come behind all that.
abbrev pub SpeaksInTime : Times → ℕ → List SpokeAt → WroteAt → Type 0
SpeaksInTime times since [] last = since ≤ last.at
SpeaksInTime times since (s ∷ spoke) last =
    (since ≤ s.at) × (s.at ≤ since + times.sender_acts) × (s.at < s.by)
    × SpeaksInTime times s.by spoke last

-- So does a receiver, which reads first and writes then.
abbrev pub AnswersInTime : Times → ℕ → List AnsweredAt → Type 0
AnswersInTime times since [] = Unit {0}
AnswersInTime times since (a ∷ answered) =
    (since ≤ a.from) × (a.from ≤ a.by) × (a.by ≤ a.at) × (a.at ≤ a.by + times.receiver_acts)
    × AnswersInTime times a.at answered

-- ---- What the line hands on

-- what was written at the one moment is heard at the other: later, and not too old
pub record IsFresh (times : Times) (at by : ℕ) : Type 0 where
  pub later : at < by
  pub young : by ≤ at + times.oldest

-- the first of these that was not lost, and what was written behind it
abbrev pub Takes : {W : Type 0} → List W → W → List W → Type 0
Takes [] one behind = ⊥
Takes (w ∷ writes) one behind = ((one ≡ w) × (behind ≡ writes)) ⊎ Takes writes one behind

-- In order, each read was in vain, or brought what arrived of one of the writes that were not heard
-- yet; those before it are lost.
abbrev pub HandsOn :
    {W R : Type 0} → (W → R → Type 0) → (R → Type 0) → List W → List R → Type 0
HandsOn Brings InVain writes [] = Unit {0}
HandsOn {W} Brings InVain writes (r ∷ reads) =
    (InVain r × HandsOn Brings InVain writes reads)
    ⊎ ((one : W) × (behind : List W) × Takes writes one behind × Brings one r
    × HandsOn Brings InVain behind reads)

-- To the receiver: whole, or visibly damaged. Where nothing was written, nothing comes.
pub record BringsThere (times : Times) (one : WroteAt) (a : AnsweredAt) : Type 0 where
  pub some : one.bytes ≡ [] → ⊥
  pub fresh : IsFresh times one.at a.by
  pub delivery : Delivery
  pub arrives : ArrivesThere delivery one.bytes a.answered.heard

-- it heard nothing, and waited
pub record ReceiverInVain (times : Times) (a : AnsweredAt) : Type 0 where
  pub nothing : a.answered.heard ≡ Bad
  pub waited : a.from + times.receiver_waits ≤ a.by

abbrev pub HandsThere : Times → List WroteAt → List AnsweredAt → Type 0
HandsThere times writes answered =
    HandsOn (BringsThere times) (ReceiverInVain times) writes answered

-- to the sender
pub record BringsBack (times : Times) (one : AnsweredAt) (s : SpokeAt) : Type 0 where
  pub fresh : IsFresh times one.at s.by
  pub delivery : Delivery
  pub arrives : ArrivesBack delivery one.answered.wrote s.spoke.came

pub record SenderInVain (times : Times) (s : SpokeAt) : Type 0 where
  pub nothing : s.spoke.came ≡ []
  pub waited : s.at + times.sender_waits ≤ s.by

abbrev pub HandsBack : Times → List AnsweredAt → List SpokeAt → Type 0
HandsBack times answered spoke = HandsOn (BringsBack times) (SenderInVain times) answered spoke

-- ---- What is left to the rule by which a line is let clear

-- a receiver that heard nothing asks at no moment at which this frame, written now, may meet it
abbrev pub IsApart : Times → ℕ → AnsweredAt → Type 0
IsApart times at a =
    ReceiverInVain times a → (a.at + times.oldest ≤ at) ⊎ (at + times.oldest < a.at)

abbrev pub AllApart : Times → ℕ → List AnsweredAt → Type 0
AllApart times at [] = Unit {0}
AllApart times at (a ∷ answered) = IsApart times at a × AllApart times at answered

-- No ask meets a frame that a sender wrote since its own wait was in vain; where it wrote nothing,
-- there is none.
abbrev pub NoneMeet : Times → List SpokeAt → List AnsweredAt → Type 0
NoneMeet times [] answered = Unit {0}
NoneMeet times (s ∷ []) answered = Unit {0}
NoneMeet times (s ∷ next ∷ spoke) answered =
    (SenderInVain times s → (next.spoke.wrote ≡ []) ⊎ AllApart times next.at answered)
    × NoneMeet times (next ∷ spoke) answered

-- No wait of a sender was in vain: within each something came. Then none meet.
abbrev pub HearsEachTime : List SpokeAt → Type 0
HearsEachTime [] = Unit {0}
HearsEachTime (s ∷ spoke) = (s.spoke.came ≡ [] → ⊥) × HearsEachTime spoke

-- ---- Two ends on such a line

-- From these moments on a sender and a receiver act in time, and the line hands on what they write.
pub record IsTimed (times : Times) (start begun : ℕ) (spoke : List SpokeAt) (last : WroteAt)
    (answered : List AnsweredAt) : Type 0 where
  pub speaks : SpeaksInTime times start spoke last
  pub answers : AnswersInTime times begun answered
  pub there : HandsThere times (written spoke last) answered
  pub back : HandsBack times answered spoke

-- a new sender has nothing to say before it has heard a C
abbrev pub BeginsSilent : List SpokeAt → Type 0
BeginsSilent [] = Unit {0}
BeginsSilent (s ∷ spoke) = s.spoke.wrote ≡ []

abbrev pub spoken : List SpokeAt → List Spoke
spoken spoke = map (λ (one : SpokeAt). one.spoke) spoke

abbrev pub answers_of : List AnsweredAt → List Answered
answers_of answered = map (λ (one : AnsweredAt). one.answered) answered

-- the histories of two calls, with moments: what they were, and when
pub record CallsAreTimed (times : Times) (s new : SenderParts) (r end : ReceiverParts)
    (calls : AreCalls s new r end) : Type 0 where
  pub start : ℕ
  pub begun : ℕ
  pub spoke : List SpokeAt
  pub last : WroteAt
  pub answered : List AnsweredAt
  pub timed : IsTimed times start begun spoke last answered
  pub spoke_is : spoken spoke ≡ spoke_along s calls.deliveries calls.progress new calls.speaks
  pub last_is : last.bytes ≡ written_for (sender.spoken new)
  pub answered_is : answers_of answered ≡ answered_along r calls.heard calls.steps end calls.hears
