-- The line of a fault, and the status that a command ends with: 0 where its end has finished, 1
-- where it ended otherwise, 2 where what it was given is refused, and 3 where a device failed, the
-- connection was closed, or memory ran out.
use Rattle.std.specs.Prelude.{ℕ, List, codes, Result, Ok, Err}
use Rattle.std.specs.IoError.{error_kind}
use Rattle.std.specs.declared.io.Error.{Error}
use Rattle.std.specs.declared.io.ErrorKind.{ErrorKind}
use Rattle.std.specs.declared.io.ErrorKind.TheVariants as kind
use Rattle.ym_file.specs.declared.sink.SinkFault.{SinkFault}
use Rattle.ym_file.specs.declared.sink.SinkFault.TheVariants as sink
use Rattle.ym_header.specs.declared.fault.HeaderFault.{HeaderFault}
use Rattle.ym_header.specs.declared.fault.HeaderFault.TheVariants as header
use Rattle.ym_link.specs.declared.end_fault.EndFault.{EndFault}
use Rattle.ym_link.specs.declared.end_fault.EndFault.TheVariants as end
use Rattle.ym_core.specs.declared.state.RecvState.{RecvState}
use Rattle.ym_core.specs.declared.state.RecvState.TheVariants as recv
use Rattle.ym_core.specs.declared.state.SendState.{SendState}
use Rattle.ym_core.specs.declared.state.SendState.TheVariants as send
use Rattle.ym_answer.specs.declared.command_fault.CommandFault.{CommandFault}
use Rattle.ym_answer.specs.declared.command_fault.CommandFault.TheVariants as fault

abbrev pub fault_status : CommandFault → ℕ
fault_status fault.Port = 2
fault_status fault.Name = 2
fault_status fault.Length = 2
fault_status fault.TooManyFiles = 2
fault_status fault.Closed = 3
fault_status fault.Device = 3
fault_status fault.Memory = 3

-- the line that tells it, without its end
abbrev pub fault_words : CommandFault → List ℕ
fault_words fault.Port = codes "fault: port"
fault_words fault.Name = codes "fault: name"
fault_words fault.Length = codes "fault: length"
fault_words fault.TooManyFiles = codes "fault: too many files"
fault_words fault.Closed = codes "fault: closed"
fault_words fault.Device = codes "fault: device"
fault_words fault.Memory = codes "fault: memory"

-- a file's name or its length is refused
abbrev pub header_fault : HeaderFault → CommandFault
header_fault header.NameEmpty = fault.Name
header_fault header.NameLong = fault.Name
header_fault header.NameUnsafe = fault.Name
header_fault header.NoLength = fault.Length
header_fault header.LengthLarge = fault.Length
header_fault header.Memory = fault.Memory

abbrev pub end_fault : EndFault → CommandFault
end_fault end.Closed = fault.Closed
end_fault end.Device = fault.Device
end_fault end.Memory = fault.Memory

abbrev pub sink_fault : SinkFault → CommandFault
sink_fault sink.Failed = fault.Device
sink_fault sink.Memory = fault.Memory

-- how a sender that no port stopped ends the program
abbrev pub send_answer : SendState → Result ℕ CommandFault
send_answer send.Running = Ok 1
send_answer send.Finished = Ok 0
send_answer send.NoReply = Ok 1
send_answer send.Cancelled = Ok 1
send_answer send.SourceFailed = Err fault.Device

-- how a receiver that no port stopped ends the program
abbrev pub receive_answer : RecvState → Result ℕ CommandFault
receive_answer recv.Running = Ok 1
receive_answer recv.Finished = Ok 0
receive_answer recv.TooManyErrors = Ok 1
receive_answer recv.Cancelled = Ok 1
receive_answer recv.OutOfStep = Ok 1
receive_answer (recv.BadHeader e) = Ok 1
receive_answer recv.TooManyFiles = Ok 1
receive_answer recv.SinkFailed = Err fault.Device

-- what the host's system answers is told as: a device that failed, or want of memory
abbrev pub IsHostFault : CommandFault → Type 0
IsHostFault fault.Port = ⊥
IsHostFault fault.Name = ⊥
IsHostFault fault.Length = ⊥
IsHostFault fault.TooManyFiles = ⊥
IsHostFault fault.Closed = ⊥
IsHostFault fault.Device = Unit {0}
IsHostFault fault.Memory = Unit {0}

-- which of both an error is told as, by its kind
abbrev pub fault_for : ErrorKind → CommandFault
fault_for kind.OutOfMemory = fault.Memory
fault_for _ = fault.Device

abbrev pub host_fault : Error → CommandFault
host_fault error = fault_for (error_kind error)
