-- The lines that tell what the program does and why it failed, without their ends.
use Rattle.std.specs.Prelude.{ℕ, List, ◌++◌, codes, decimal, Option, Some, None}
use Rattle.ym_header.specs.declared.fault.HeaderFault.{HeaderFault}
use Rattle.ym_header.specs.declared.fault.HeaderFault.TheVariants as header
use Rattle.ym_core.specs.declared.state.RecvState.{RecvState}
use Rattle.ym_core.specs.declared.state.RecvState.TheVariants as recv
use Rattle.ym_core.specs.declared.state.SendState.{SendState}
use Rattle.ym_core.specs.declared.state.SendState.TheVariants as send
use Rattle.ym_text.specs.declared.came.Sight.{Sight}
use Rattle.ym_text.specs.declared.came.Sight.TheVariants as seen
use Rattle.ym_text.specs.declared.came.Lately.{Lately}
use Rattle.ym_text.specs.declared.cause.Cause.{Cause}
use Rattle.ym_text.specs.declared.cause.Peer.TheVariants as peer
use Rattle.ym_text.specs.declared.reason.Reason.{Reason}
use Rattle.ym_text.specs.declared.line_message.LineMessage.{LineMessage}
use Rattle.ym_text.specs.declared.line_message.LineMessage.TheVariants as line
use Rattle.ym_text.specs.declared.echo_message.EchoMessage.{EchoMessage}
use Rattle.ym_text.specs.declared.echo_message.EchoMessage.TheVariants as echo
use Rattle.ym_text.specs.declared.end_message.EndMessage.{EndMessage}
use Rattle.ym_text.specs.declared.end_message.EndMessage.TheVariants as end
use Rattle.ym_text.specs.declared.end_message.EndWords.{EndWords}
use Rattle.ym_text.specs.declared.end_message.EndWords.TheVariants as words
use Rattle.std.specs.IoError.{error_kind}
use Rattle.std.specs.declared.io.Error.{Error}
use Rattle.std.specs.declared.io.ErrorKind.{ErrorKind}
use Rattle.std.specs.declared.io.ErrorKind.TheVariants as kind
use Rattle.ym_text.specs.Causes.{cause_of, cause_text}
use Rattle.ym_text.specs.Reasons.{reason_of, reason_text}

abbrev pub line_text : LineMessage → List ℕ
line_text (line.Listening port) = codes "listening on 127.0.0.1:" ++ decimal port
line_text line.Connected = codes "connected"
line_text (line.Connecting port) = codes "connecting to 127.0.0.1:" ++ decimal port
line_text (line.InUse port) =
    codes "port " ++ (decimal port ++ codes " is in use by another program: choose another one")
line_text (line.Refused port) =
    codes "nobody listens on 127.0.0.1:" ++ (decimal port ++ codes ": is the receiver running?")
line_text (line.Failed port why) =
    codes "no connection at 127.0.0.1:" ++ (decimal port ++ (codes ": " ++ reason_text why))

-- why there is no connection
abbrev pub no_line_for : ℕ → ErrorKind → Reason → LineMessage
no_line_for port kind.AddrInUse why = line.InUse port
no_line_for port kind.ConnectionRefused why = line.Refused port
no_line_for port _ why = line.Failed port why

abbrev pub no_line : ℕ → Error → LineMessage
no_line port error = no_line_for port (error_kind error) (reason_of error)

abbrev pub header_text : HeaderFault → List ℕ
header_text header.NameEmpty = codes "the sender gave a file an empty name"
header_text header.NameLong = codes "the sender gave a file a name of more than 255 bytes"
header_text header.NameUnsafe =
    codes "the sender gave an unsafe name: a path, not UTF-8, or with control characters"
header_text header.NoLength =
    codes "the sender gave a file no length: use a sender of YMODEM that gives one"
header_text header.LengthLarge =
    codes "the sender gave a file a length above 9223372036854775807"
header_text header.Memory = codes "out of memory"

-- to a sender a receiver should be there, and to a receiver a sender
abbrev pub echo_text : EchoMessage → List ℕ
echo_text echo.ToSender = codes "the line echoes what is sent: is a receiver running there?"
echo_text echo.ToReceiver = codes "the line echoes what is sent: is a sender running there?"

abbrev pub end_text : EndMessage → List ℕ
end_text end.PeerCancelled = codes "the other end cancelled (CAN CAN)"
end_text end.PeerClosed = codes "the other end closed the connection"
end_text end.LineFailed = codes "the connection failed"
end_text end.LineHungUp = codes "the line hung up"
end_text end.LineEndless =
    codes "reads of the line do not end by themselves: set it by "
    ++ codes "`stty raw -echo clocal min 0 time 1`"
end_text (end.LineRefused why) = codes "the line failed: " ++ reason_text why
end_text (end.NoReply lately) = cause_text (cause_of peer.Receiver lately)
end_text (end.NoBlock lately) = cause_text (cause_of peer.Sender lately)
end_text end.SourceFailed =
    codes "a file could not be read, or has changed since it was looked at"
end_text end.OutOfStep =
    codes "a block came out of turn: the two ends are out of step, send again"
end_text end.Nameless =
    codes "the sender names no file, as XMODEM does: start it as a sender of YMODEM"
end_text (end.BadHeader fault) = header_text fault
end_text end.NoRoom =
    codes "the name leaves block 0 no room for the length: send the file under a shorter one"
end_text end.TooManyFiles = codes "more than 65535 files came: send the rest in another batch"

-- the line that is made of these words
abbrev pub words_text : EndWords → List ℕ
words_text (words.Text text) = text.now
words_text (words.Refused why) = codes "the line failed: " ++ reason_text why
words_text (words.Unheard why) = cause_text why

-- why a sender has ended so, where this came of late, unless it has finished or still runs
abbrev pub sender_end : Lately → SendState → Option EndMessage
sender_end lately send.Running = None
sender_end lately send.Finished = None
sender_end lately send.NoReply = Some (end.NoReply lately)
sender_end lately send.Cancelled = Some end.PeerCancelled
sender_end lately send.SourceFailed = Some end.SourceFailed

-- a block came out of turn, to a receiver that saw this of the sender
abbrev pub out_of_step : Sight → EndMessage
out_of_step seen.Nameless = end.Nameless
out_of_step _ = end.OutOfStep

-- a block 0 was refused: one of YMODEM may lack a length for want of room
abbrev pub header_end : Sight → HeaderFault → EndMessage
header_end seen.Crammed header.NoLength = end.NoRoom
header_end _ fault = end.BadHeader fault

-- the same of a receiver, whose sink is told of elsewhere
abbrev pub receiver_end : Lately → RecvState → Option EndMessage
receiver_end lately recv.Running = None
receiver_end lately recv.Finished = None
receiver_end lately recv.TooManyErrors = Some (end.NoBlock lately)
receiver_end lately recv.Cancelled = Some end.PeerCancelled
receiver_end lately recv.OutOfStep = Some (out_of_step lately.seen)
receiver_end lately (recv.BadHeader fault) = Some (header_end lately.seen fault)
receiver_end lately recv.TooManyFiles = Some end.TooManyFiles
receiver_end lately recv.SinkFailed = None
