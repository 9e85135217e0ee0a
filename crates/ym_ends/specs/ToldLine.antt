-- What the faults of a line are told as.
use Rattle.std.specs.Prelude.{Bool, Option, None, Some, is_some}
use Rattle.std.specs.declared.io.Error.{Error}
use Rattle.ym_host.specs.declared.tty_wire.TtyFault.{TtyFault}
use Rattle.ym_host.specs.declared.tty_wire.TtyFault.TheVariants as fault
use Rattle.ym_text.specs.Reasons.{reason_of}
use Rattle.ym_text.specs.declared.end_message.EndMessage.{EndMessage}
use Rattle.ym_text.specs.declared.end_message.EndMessage.TheVariants as end
use Rattle.ym_ends.specs.declared.told_line.LineWords.{LineWords}

-- why a connection failed
abbrev pub refused_words : Option Error → EndMessage
refused_words None = end.LineFailed
refused_words (Some error) = end.LineRefused (reason_of error)

abbrev pub connection_words : Option Error → LineWords
connection_words why = record {
  closed = end.PeerClosed;
  failed = refused_words why;
  has_failed = is_some why;
}

-- why a terminal failed
abbrev pub fault_words : Option TtyFault → EndMessage
fault_words None = end.LineFailed
fault_words (Some fault.HungUp) = end.LineHungUp
fault_words (Some fault.Endless) = end.LineEndless
fault_words (Some (fault.System error)) = end.LineRefused (reason_of error)

-- Of a terminal from which nothing will come any more it is told that it hung up. It may do so at
-- no call that failed.
abbrev pub terminal_words : Option TtyFault → Bool → LineWords
terminal_words why has_failed = record {
  closed = end.LineHungUp;
  failed = fault_words why;
  has_failed = has_failed;
}
