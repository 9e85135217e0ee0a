-- The text of a trace. Its words and lines are this profile's choice.
use Rattle.std.specs.Prelude.{ℕ, ◌+◌, List, [], ◌∷◌, ◌++◌, codes, decimal}
use Rattle.ym_frame.specs.declared.control.Reply.{Reply}
use Rattle.ym_frame.specs.declared.control.Reply.TheVariants as reply
use Rattle.ym_header.specs.declared.fault.HeaderFault.{HeaderFault}
use Rattle.ym_header.specs.declared.fault.HeaderFault.TheVariants as fault
use Rattle.ym_core.specs.declared.state.SendState.{SendState}
use Rattle.ym_core.specs.declared.state.SendState.TheVariants as send
use Rattle.ym_core.specs.declared.state.RecvState.{RecvState}
use Rattle.ym_core.specs.declared.state.RecvState.TheVariants as recv
use Rattle.ym_line.specs.declared.trace.What.{What}
use Rattle.ym_line.specs.declared.trace.What.TheVariants as what
use Rattle.ym_line.specs.declared.trace.How.{How}
use Rattle.ym_line.specs.declared.trace.How.TheVariants as how
use Rattle.ym_line.specs.declared.trace.Seen.{Seen}
use Rattle.ym_line.specs.declared.trace.Trace.{Trace}

abbrev pub what_text : What → List ℕ
what_text what.Nothing = codes "-"
what_text (what.Block number length) =
    codes "block " ++ (decimal number ++ (codes " " ++ decimal length))
what_text what.Eot = codes "eot"
what_text what.Can = codes "can"

abbrev pub how_text : How → List ℕ
how_text how.Whole = codes "whole"
how_text how.Lost = codes "lost"
how_text how.Damaged = codes "damaged"

abbrev pub reply_text : Reply → List ℕ
reply_text reply.Silence = codes "-"
reply_text reply.Start = codes "C"
reply_text reply.Ack = codes "ACK"
reply_text reply.AckStart = codes "ACK C"
reply_text reply.Nak = codes "NAK"
reply_text reply.Cancel = codes "CAN"

abbrev pub send_text : SendState → List ℕ
send_text send.Running = codes "running"
send_text send.Finished = codes "finished"
send_text send.NoReply = codes "no-reply"
send_text send.Cancelled = codes "cancelled"
send_text send.SourceFailed = codes "source-failed"

abbrev pub fault_text : HeaderFault → List ℕ
fault_text fault.NameEmpty = codes "name-empty"
fault_text fault.NameLong = codes "name-long"
fault_text fault.NameUnsafe = codes "name-unsafe"
fault_text fault.NoLength = codes "no-length"
fault_text fault.LengthLarge = codes "length-large"
fault_text fault.Memory = codes "memory"

abbrev pub recv_text : RecvState → List ℕ
recv_text recv.Running = codes "running"
recv_text recv.Finished = codes "finished"
recv_text recv.TooManyErrors = codes "too-many-errors"
recv_text recv.Cancelled = codes "cancelled"
recv_text recv.OutOfStep = codes "out-of-step"
recv_text (recv.BadHeader fault) = codes "bad-header " ++ fault_text fault
recv_text recv.TooManyFiles = codes "too-many-files"
recv_text recv.SinkFailed = codes "sink-failed"

-- the line of round n
abbrev pub round_line : ℕ → Seen → List ℕ
round_line n seen =
    decimal n ++ (codes " > " ++ (what_text seen.what ++ (codes " " ++ (how_text seen.there ++
    (codes " < " ++ (reply_text seen.reply ++ (codes " " ++ (how_text seen.back ++
    codes "\n"))))))))

-- the lines of rounds, of which the first has number n
abbrev pub round_lines : ℕ → List Seen → List ℕ
round_lines n [] = []
round_lines n (seen ∷ more) = round_line n seen ++ round_lines (n + 1) more

-- the lines of both ends, without and with the end of a line
abbrev pub sender_words : ℕ → SendState → List ℕ
sender_words done state = codes "sender done " ++ (decimal done ++ (codes " " ++ send_text state))

abbrev pub receiver_words : ℕ → RecvState → List ℕ
receiver_words files state =
    codes "receiver files " ++ (decimal files ++ (codes " " ++ recv_text state))

abbrev pub sender_line : ℕ → SendState → List ℕ
sender_line done state = sender_words done state ++ codes "\n"

abbrev pub receiver_line : ℕ → RecvState → List ℕ
receiver_line files state = receiver_words files state ++ codes "\n"

abbrev pub trace_text : Trace → List ℕ
trace_text trace =
    round_lines 1 trace.rounds.items ++
    (sender_line trace.done trace.send ++ receiver_line trace.files trace.recv)
