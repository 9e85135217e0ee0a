-- The sentence of each verdict: what went wrong, and what to try.
use Rattle.std.specs.Prelude.{ℕ, List, ◌++◌, codes}
use Rattle.ym_explain.specs.declared.verdict.Verdict.{Verdict}
use Rattle.ym_explain.specs.declared.verdict.Verdict.TheVariants.{Whole, Mended, Repeated, Unharmed, SenderDone, Zmodem, Echo, SevenBits, Noise, Xmodem, XmodemReceiver, YmodemGReceiver, NobodyAsked, EotAlone, NobodySent, NobodyAnswered, CancelledUnsent, FlowControl, SubEaten, EatenBytes, NoRoom, CutLength, PastLength, TooManyErrors, Damage, FellSilent, SenderCancelled, ReceiverCancelled, ReplyAhead, Stopped, Unheard}

abbrev pub verdict_text : Verdict → List ℕ
verdict_text Whole = codes "the session is whole: nothing went wrong"
verdict_text Mended = codes "the session is whole: what came damaged was sent again"
verdict_text Repeated =
    codes "the session is whole: what was refused or unanswered was sent again"
verdict_text Unharmed =
    codes "the session is whole: what came damaged behind its end changed nothing"
verdict_text SenderDone =
    codes "the sender wrote its whole batch: what the receiver answered is not in the file"
verdict_text Zmodem = codes "an end speaks ZMODEM: start it with sb or rb in place of sz or rz"
verdict_text Echo =
    codes "what the sender wrote came back: start the receiver at the other end first"
verdict_text SevenBits =
    codes "only seven bits of each byte came: set the line to eight bits and no parity"
verdict_text Noise = codes "bytes came, no text and no frame: set both ends to the same speed"
verdict_text Xmodem =
    codes "the sender names no file, as XMODEM does: start it as a sender of YMODEM"
verdict_text XmodemReceiver =
    codes "the receiver asks by NAK, as XMODEM does: start it as a receiver of YMODEM"
verdict_text YmodemGReceiver =
    codes "the receiver asks by G, as YMODEM-g does: start it as a receiver of YMODEM"
verdict_text NobodyAsked =
    codes "no receiver asked for a file: start one, and see that its line is connected"
verdict_text EotAlone =
    codes "EOT came and no block: start both ends again, and record from before they start"
verdict_text NobodySent =
    codes "no frame is in the file: see which way it has, and whether a sender was started"
verdict_text NobodyAnswered = codes "the receiver asked and no frame came: start the sender"
verdict_text CancelledUnsent =
    codes "the sender cancelled before it sent a frame: see what it says"
verdict_text FlowControl =
    codes "frames came short, and no 11 or 13 in them: "
    ++ codes "turn XON/XOFF off at both ends and between them"
verdict_text SubEaten =
    codes "frames came short, and no 1A in them: set the line to raw, so that it carries every byte"
verdict_text EatenBytes =
    codes "frames came short, with no 11 and 13 and no 1A: "
    ++ codes "turn flow control off and set the line to raw"
verdict_text NoRoom =
    codes "block 0 had no room for the whole length: send the file under a shorter name"
verdict_text CutLength =
    codes "a file ended before its stated length: see whether it changed while it was sent"
verdict_text PastLength =
    codes "what came past a file's stated length is dropped: "
    ++ codes "send one that does not grow, and no pipe"
verdict_text TooManyErrors =
    codes "ten frames in a row were refused: try a lower speed or a better line"
verdict_text Damage =
    codes "a frame came damaged and never whole: try a lower speed or a better line"
verdict_text FellSilent =
    codes "the receiver fell silent: see whether it still runs, and whether the line was cut"
verdict_text SenderCancelled = codes "the sender cancelled: see what it says"
verdict_text ReceiverCancelled =
    codes "the receiver cancelled: see what it says, and whether it can write the file"
verdict_text ReplyAhead =
    codes "the receiver acknowledged what was not sent yet: start both ends again"
verdict_text Stopped =
    codes "the session stopped before its end: see whether the line was cut or an end was closed"
verdict_text Unheard =
    codes "nothing wrong is seen one way: record both ways to see what was answered"
