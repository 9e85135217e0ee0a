-- The numbers that C sees.
use Rattle.std.specs.Prelude.{ℕ, Bool, true, false, ◌==◌, if◌then◌else◌}
use Rattle.ym_frame.specs.declared.control.Reply.{Reply}
use Rattle.ym_frame.specs.declared.control.Reply.TheVariants.{Silence, Start, Ack, AckStart, Nak, Cancel}
use Rattle.ym_header.specs.declared.fault.HeaderFault.{HeaderFault}
use Rattle.ym_header.specs.declared.fault.HeaderFault.TheVariants.{NameEmpty, NameLong, NameUnsafe, NoLength, LengthLarge, Memory}
use Rattle.ym_machine.specs.declared.confirm.Confirm.{Confirm}
use Rattle.ym_machine.specs.declared.confirm.Confirm.TheVariants.{Twice, Once}
use Rattle.ym_core.specs.declared.state.RecvState.{RecvState}
use Rattle.ym_core.specs.declared.state.RecvState.TheVariants.{Running, Finished, TooManyErrors, Cancelled, OutOfStep, BadHeader, TooManyFiles, SinkFailed}

abbrev pub header_fault_code : HeaderFault → ℕ
header_fault_code NameEmpty = 1
header_fault_code NameLong = 2
header_fault_code NameUnsafe = 3
header_fault_code NoLength = 4
header_fault_code LengthLarge = 5
header_fault_code Memory = 6

abbrev pub state_code : RecvState → ℕ
state_code Running = 0
state_code Finished = 1
state_code TooManyErrors = 2
state_code Cancelled = 3
state_code OutOfStep = 4
state_code TooManyFiles = 5
state_code SinkFailed = 6
state_code (BadHeader fault) = 7

abbrev pub fault_code : RecvState → ℕ
fault_code (BadHeader fault) = header_fault_code fault
fault_code _ = 0

abbrev pub confirm_code : Confirm → ℕ
confirm_code Twice = 0
confirm_code Once = 1

abbrev pub confirm_of : ℕ → Confirm
confirm_of code = if code == 0 then Twice else Once

abbrev pub bool_code : Bool → ℕ
bool_code true = 1
bool_code false = 0

-- of a reply that is to be given; 0 where none is
abbrev pub reply_code : Reply → ℕ
reply_code Silence = 1
reply_code Start = 2
reply_code Ack = 3
reply_code AckStart = 4
reply_code Nak = 5
reply_code Cancel = 6
