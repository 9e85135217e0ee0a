-- Why an end heard nothing of use, as often as it may, and that in words.
use Rattle.std.specs.Prelude.{ℕ, List, ◌++◌, codes, decimal, Bool, true, false, Option, Some, None}
use Rattle.ym_text.specs.declared.came.Came.{Came}
use Rattle.ym_text.specs.declared.came.Came.TheVariants as came
use Rattle.ym_text.specs.declared.came.Sight.{Sight}
use Rattle.ym_text.specs.declared.came.Sight.TheVariants as seen
use Rattle.ym_text.specs.declared.came.Lately.{Lately}
use Rattle.ym_text.specs.declared.cause.Peer.{Peer}
use Rattle.ym_text.specs.declared.cause.Peer.TheVariants as peer
use Rattle.ym_text.specs.declared.cause.Cause.{Cause}
use Rattle.ym_text.specs.declared.cause.Cause.TheVariants as cause
use Rattle.ym_text.specs.declared.cause.CauseWords.{CauseWords}
use Rattle.ym_text.specs.declared.cause.CauseWords.TheVariants as words

abbrev pub peer_text : Peer → List ℕ
peer_text peer.Receiver = codes "receiver"
peer_text peer.Sender = codes "sender"

-- nothing comes: an end that was heard before has stopped, or its line was cut
abbrev pub silence_of : Peer → Sight → ℕ → Cause
silence_of other seen.Nothing seconds = cause.Absent other seconds
silence_of other _ seconds = cause.Ceased other seconds

-- what receivers send comes
abbrev pub prompt_of : Peer → Cause → Cause
prompt_of peer.Receiver why = why
prompt_of peer.Sender why = cause.NoSender

-- ACK comes, and then NAK, and no C. Behind the first block 0 a receiver of XMODEM answers so: it
-- takes that for a copy of what it has not got, and waits for block 1. One of YMODEM may answer so
-- behind one that was repeated, as its C was the answer to the first one.
abbrev pub passed_of : Peer → Sight → Cause → Cause
passed_of peer.Receiver seen.Begun why = cause.Passes
passed_of _ _ why = why

-- Nothing comes any more. A prompt is shown once, and whoever asked was there. A receiver that asks
-- a receiver may not be heard: what it sends is what an echo would bring.
abbrev pub quiet_of : Peer → Sight → Came → ℕ → Cause
quiet_of other before came.Nothing seconds = silence_of other before seconds
quiet_of other before came.Copies seconds = silence_of other before seconds
quiet_of other before came.Past seconds = silence_of other before seconds
quiet_of other before came.Other seconds = silence_of other before seconds
quiet_of other before came.Takes seconds = silence_of other before seconds
quiet_of other before came.Passes seconds =
    passed_of other before (silence_of other before seconds)
quiet_of other before came.Text seconds = cause.Text
quiet_of other before _ seconds = prompt_of other (cause.Ceased other seconds)

-- NAK comes: before it has asked by C, a receiver of XMODEM asks so
abbrev pub asked_of : Sight → Cause
asked_of seen.Nothing = cause.Xmodem
asked_of _ = cause.Refuses

-- other bytes come: where something whole came before, both ends have the same speed
abbrev pub noise_of : Peer → Sight → Cause
noise_of peer.Receiver seen.Nothing = cause.NoReceiver
noise_of peer.Sender seen.Nothing = cause.Noise
noise_of _ _ = cause.Damage

abbrev pub heard_of : Peer → Sight → Came → ℕ → Cause
heard_of other before came.Nothing seconds = silence_of other before seconds
heard_of other before came.Asks seconds = prompt_of other cause.Asks
heard_of other before came.Refuses seconds = prompt_of other (asked_of before)
heard_of other before came.Streams seconds = prompt_of other cause.Streams
heard_of other before came.Takes seconds = noise_of other before
heard_of other before came.Passes seconds = passed_of other before (noise_of other before)
heard_of other before came.Text seconds = cause.Text
heard_of other before came.Copies seconds = cause.Copies
heard_of other before came.Past seconds = cause.Past
heard_of other before came.Other seconds = noise_of other before

-- where an answer takes longer than usual peers wait, and something came, that is the reason
abbrev pub cause_for : Peer → Sight → ℕ → Came → Option ℕ → Bool → Cause
cause_for other before seconds came.Nothing slow is_silent = silence_of other before seconds
cause_for other before seconds what (Some took) is_silent = cause.Slow took
cause_for other before seconds what None true = quiet_of other before what seconds
cause_for other before seconds what None false = heard_of other before what seconds

abbrev pub cause_of : Peer → Lately → Cause
cause_of other lately =
    cause_for other lately.seen lately.seconds lately.came lately.slow lately.is_silent

abbrev pub absent_text : Peer → ℕ → List ℕ
absent_text other seconds =
    codes "no answer came for " ++ (decimal seconds ++ (codes " s: is the "
    ++ (peer_text other ++ codes " running, at the same speed?")))

abbrev pub stopped_text : Peer → List ℕ
stopped_text other =
    codes "has the " ++ (peer_text other ++ codes " stopped, or was the line cut?")

abbrev pub ceased_text : Peer → ℕ → List ℕ
ceased_text other seconds =
    codes "no answer came any more for "
    ++ (decimal seconds ++ (codes " s: " ++ stopped_text other))

abbrev pub slow_text : ℕ → List ℕ
slow_text took =
    codes "answers take longer than "
    ++ (decimal took ++ codes " seconds: use a line that hands on sooner")

abbrev pub cause_text : Cause → List ℕ
cause_text (cause.Absent other seconds) = absent_text other seconds
cause_text (cause.Ceased other seconds) = ceased_text other seconds
cause_text (cause.Slow took) = slow_text took
cause_text cause.Asks =
    codes "nothing came but C, ten times: does the receiver get what is written to it?"
cause_text cause.Refuses =
    codes "nothing came but NAK, ten times: does the receiver get every byte that is sent?"
cause_text cause.Xmodem =
    codes "the receiver asks by NAK, as XMODEM does: start it as a receiver of YMODEM"
cause_text cause.Passes =
    codes "the receiver took block 0 and asked by NAK, as XMODEM does: run `rb` there, "
    ++ codes "not `rx`"
cause_text cause.Streams =
    codes "the receiver asks by G, as YMODEM-g does: start it as a receiver of YMODEM"
cause_text cause.NoSender =
    codes "nothing came but what receivers send: is a sender at the other end?"
cause_text cause.NoReceiver =
    codes "what comes is no answer of a YMODEM receiver: is one running, at the same speed?"
cause_text cause.Text =
    codes "what comes is no YMODEM: is a shell or a boot loader's prompt at the other end?"
cause_text cause.Copies =
    codes "nothing came but the same again, ten times: does the sender get what is written to it?"
cause_text cause.Past =
    codes "nothing came but data past the file's length, ten times: does the file grow?"
cause_text cause.Damage =
    codes "nothing new came whole, ten times in a row: use a better line, or a lower speed"
cause_text cause.Noise =
    codes "nothing whole came, ten times in a row: do both ends have the same speed?"

-- the line that is made of these words
abbrev pub words_text : CauseWords → List ℕ
words_text (words.Text text) = text.now
words_text (words.Absent told) = absent_text told.peer told.seconds
words_text (words.Ceased told) = ceased_text told.peer told.seconds
words_text (words.Slow told) = slow_text told.took
