-- How the frames of the sender and the answers of the receiver fit together.
--
-- C. Forsberg, XMODEM/YMODEM Protocol Reference (1988): each frame is answered before the next one
-- comes; ACK takes it, NAK asks for it once more, C asks for a file or for its data. A receiver
-- may refuse the first EOT, to hear it twice.
use Rattle.std.specs.Prelude.{Bool, true, false}
use Rattle.ym_frame.specs.declared.control.Control.{Control}
use Rattle.ym_frame.specs.declared.control.Control.TheVariants as control
use Rattle.ym_explain.specs.declared.talk.Footing.{Footing}
use Rattle.ym_explain.specs.declared.talk.Footing.TheVariants.{InTurn, AsAsked, Mended, Unanswered, AckUnheard, WentOn, Astray, Leaving}
use Rattle.ym_explain.specs.declared.talk.Meaning.{Meaning}
use Rattle.ym_explain.specs.declared.talk.Meaning.TheVariants.{Asks, AsksOn, AsksAgain, AsksByNak, Takes, TakesCopy, Ahead, TakesEotAgain, Refuses, WantsEotAgain, RefusesAgain, LoneCan}
use Rattle.ym_explain.specs.declared.talk.Fate.{Fate}
use Rattle.ym_explain.specs.declared.talk.Fate.TheVariants.{Start, Out, Taken, Refused, Damaged}
use Rattle.ym_explain.specs.declared.told.FrameKind.{FrameKind}
use Rattle.ym_explain.specs.declared.told.FrameKind.TheVariants as kind
use Rattle.ym_explain.specs.declared.told.SendPosition.{SendPosition}
use Rattle.ym_explain.specs.declared.told.SendPosition.TheVariants as position

-- the frame before it once more
abbrev pub copy_footing : Fate → Footing
copy_footing Refused = AsAsked
copy_footing Taken = AckUnheard
copy_footing Start = Unanswered
copy_footing Out = Unanswered
copy_footing Damaged = Unanswered

-- the frame that comes next
abbrev pub next_footing : Fate → Footing
next_footing Start = InTurn
next_footing Taken = InTurn
next_footing Out = WentOn
next_footing Refused = WentOn
next_footing Damaged = Mended

abbrev pub footing_of : Fate → FrameKind → Footing
footing_of fate kind.Name = next_footing fate
footing_of fate kind.End = next_footing fate
footing_of fate kind.Data = next_footing fate
footing_of fate kind.Eot = next_footing fate
footing_of fate kind.Copy = copy_footing fate
footing_of fate kind.OutOfTurn = Astray
footing_of fate kind.Late = InTurn
footing_of fate kind.Cancel = Leaving

-- a refusal of the frame that is out, which is an EOT where the sender stands behind one
abbrev pub refusal_at : SendPosition → Meaning
refusal_at position.Ended = WantsEotAgain
refusal_at position.Before = Refuses
refusal_at position.Named = Refuses
refusal_at (position.Data number) = Refuses
refusal_at position.Over = Refuses

-- An acknowledgement where no frame is out. U-Boot acknowledges an EOT twice.
abbrev pub ack_at : SendPosition → Meaning
ack_at position.Before = Ahead
ack_at position.Named = Ahead
ack_at (position.Data number) = Ahead
ack_at position.Ended = TakesEotAgain
ack_at position.Over = Ahead

-- an acknowledgement where the last frame has had its answer: of a copy, if one has none yet
abbrev pub ack_again : SendPosition → Bool → Meaning
ack_again at true = TakesCopy
ack_again at false = ack_at at

abbrev pub meaning_of : SendPosition → Fate → Bool → Control → Meaning
meaning_of at fate owed control.Can = LoneCan
meaning_of at Start owed control.Start = Asks
meaning_of at Taken owed control.Start = AsksOn
meaning_of at Out owed control.Start = AsksAgain
meaning_of at Refused owed control.Start = AsksAgain
meaning_of at Damaged owed control.Start = AsksAgain
meaning_of at Out owed control.Ack = Takes
meaning_of at Damaged owed control.Ack = Takes
meaning_of at Start owed control.Ack = ack_again at owed
meaning_of at Taken owed control.Ack = ack_again at owed
meaning_of at Refused owed control.Ack = ack_again at owed
meaning_of at Start owed control.Nak = AsksByNak
meaning_of at Out owed control.Nak = refusal_at at
meaning_of at Damaged owed control.Nak = Refuses
meaning_of at Taken owed control.Nak = RefusesAgain
meaning_of at Refused owed control.Nak = RefusesAgain

-- what became of the last frame, behind an answer
abbrev pub behind_answer : Fate → Control → Fate
behind_answer Start answer = Start
behind_answer Out control.Ack = Taken
behind_answer Taken control.Ack = Taken
behind_answer Refused control.Ack = Taken
behind_answer Damaged control.Ack = Taken
behind_answer Out control.Nak = Refused
behind_answer Taken control.Nak = Taken
behind_answer Refused control.Nak = Refused
behind_answer Damaged control.Nak = Damaged
behind_answer fate control.Start = fate
behind_answer fate control.Can = fate

-- the two ends do not agree any more
abbrev pub is_parting : Footing → Bool
is_parting WentOn = true
is_parting Astray = true
is_parting InTurn = false
is_parting AsAsked = false
is_parting Mended = false
is_parting Unanswered = false
is_parting AckUnheard = false
is_parting Leaving = false

abbrev pub is_ahead : Meaning → Bool
is_ahead Ahead = true
is_ahead meaning = false
