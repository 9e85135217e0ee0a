-- Sessions on a line that is not prompt: whatever the times are, one whose deliveries do not pair
-- up.
use Rattle.std.specs.Prelude.{◌+◌, ◌-◌, min, ℕ, List, [], ◌∷◌}
use Rattle.ym_frame.specs.declared.control.Reply.TheVariants.{Start, AckStart}
use Rattle.ym_core.specs.declared.delivery.Heard.TheVariants as heard
use Rattle.ym_line.specs.declared.delivery.Round.{Round}
use Rattle.ym_pair.specs.Pairing.{PairUp}
use Rattle.ym_pair.specs.PairingExamples.{Blocks}
use Rattle.ym_delay.specs.TimedExamples.{replied, said}
use Rattle.ym_delay.specs.TimedLine.{AnsweredAt, BeginsSilent, IsTimed, NoneMeet, SpokeAt, Times}
use Rattle.ym_delay.specs.TimedLine.{WroteAt, answers_of, spoken}

-- a session of these times, in which no ask meets a frame, and which no rounds explain
pub record GoesApart (times : Times) : Type 0 where
  pub start : ℕ
  pub begun : ℕ
  pub spoke : List SpokeAt
  pub last : WroteAt
  pub answered : List AnsweredAt
  pub begins : BeginsSilent spoke
  pub timed : IsTimed times start begun spoke last answered
  pub none_meet : NoneMeet times spoke answered
  pub apart : (rounds : List Round) →
      PairUp (spoken spoke) last.bytes (answers_of answered) rounds → ⊥

-- ---- A receiver asks again just as block 0 comes

-- its C takes as long as it may, but comes before that
abbrev pub back_of : Times → ℕ
back_of times = min times.oldest (times.receiver_waits - 1)

-- and block 0 is written as late as it may
abbrev pub acts_of : Times → ℕ
acts_of times = min times.sender_acts (times.receiver_waits - 1 - back_of times)

abbrev pub asked_sender : Times → Blocks → List SpokeAt
asked_sender times blocks =
    said [] 0 (0x43 ∷ []) (times.receiver_waits + back_of times)
    ∷ said blocks.zero.bytes (times.receiver_waits + back_of times + acts_of times) (0x43 ∷ [])
    (times.receiver_waits + times.receiver_waits + 1)
    ∷ said blocks.zero.bytes (times.receiver_waits + times.receiver_waits + 1) (0x06 ∷ 0x43 ∷ [])
    (times.receiver_waits + times.receiver_waits + 2)
    ∷ said blocks.one.bytes (times.receiver_waits + times.receiver_waits + 2) (0x06 ∷ 0x43 ∷ [])
    (times.receiver_waits + times.receiver_waits + 3) ∷ []

abbrev pub asked_last : Times → Blocks → WroteAt
asked_last times blocks =
    record { bytes = blocks.two.bytes; at = times.receiver_waits + times.receiver_waits + 3 }

abbrev pub asked_receiver : Times → Blocks → List AnsweredAt
asked_receiver times blocks =
    replied 0 times.receiver_waits heard.Bad times.receiver_waits Start
    ∷ replied times.receiver_waits (times.receiver_waits + times.receiver_waits) heard.Bad
    (times.receiver_waits + times.receiver_waits) Start
    ∷ replied (times.receiver_waits + times.receiver_waits)
    (times.receiver_waits + times.receiver_waits) (heard.Item blocks.zero.item)
    (times.receiver_waits + times.receiver_waits) AckStart
    ∷ replied (times.receiver_waits + times.receiver_waits)
    (times.receiver_waits + times.receiver_waits + 2) (heard.Item blocks.zero.item)
    (times.receiver_waits + times.receiver_waits + 2) AckStart ∷ []

-- ---- A sender gives up its wait just before the reply comes

-- block 0 takes as long as it may, but is heard within that wait
abbrev pub there_of : Times → ℕ
there_of times = min times.oldest times.sender_waits

-- and so does the receiver
abbrev pub replies_of : Times → ℕ
replies_of times = min times.receiver_acts (times.sender_waits - there_of times)

-- when the sender has waited for it
abbrev pub given_up : Times → ℕ
given_up times = times.receiver_waits + 1 + times.sender_waits

abbrev pub waited_sender : Times → Blocks → List SpokeAt
waited_sender times blocks =
    said [] 0 (0x43 ∷ []) (times.receiver_waits + 1)
    ∷ said blocks.zero.bytes (times.receiver_waits + 1) [] (given_up times)
    ∷ said blocks.zero.bytes (given_up times) (0x06 ∷ 0x43 ∷ []) (given_up times + 1)
    ∷ said blocks.one.bytes (given_up times + 1) (0x06 ∷ 0x43 ∷ []) (given_up times + 2) ∷ []

abbrev pub waited_last : Times → Blocks → WroteAt
waited_last times blocks = record { bytes = blocks.two.bytes; at = given_up times + 2 }

abbrev pub waited_receiver : Times → Blocks → List AnsweredAt
waited_receiver times blocks =
    replied 0 times.receiver_waits heard.Bad times.receiver_waits Start
    ∷ replied times.receiver_waits (times.receiver_waits + 1 + there_of times)
    (heard.Item blocks.zero.item)
    (times.receiver_waits + 1 + there_of times + replies_of times) AckStart
    ∷ replied (times.receiver_waits + 1 + there_of times + replies_of times)
    (given_up times + 1) (heard.Item blocks.zero.item) (given_up times + 1) AckStart ∷ []
