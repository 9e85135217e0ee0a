-- The receiver's table: what it does at one delivery.
--
-- From C. Forsberg, XMODEM/YMODEM Protocol Reference (1988), "Receive_Program_Considerations",
-- "Graceful Abort" and "YMODEM Batch File Transmission": a repeated block is acknowledged and
-- dropped, any other wrong number is fatal and is answered by CAN, two CAN cancel, block 0 is
-- answered by ACK and C, EOT ends the data of a file, and an empty name ends the batch. This
-- profile chose the rest: the confirmed EOT, the EOT before the length is covered, data past the
-- length, the tenth delivery without progress, and what an ended receiver answers.
use Rattle.std.specs.Prelude.{ℕ, ◌+◌, ◌-◌, ◌%◌, ◌==◌, nat_lt, List, length, slice_index, take, Bool, true, false, if◌then◌else◌, Result, Ok, Err, min}
use Rattle.ym_frame.specs.declared.control.Reply.{Reply}
use Rattle.ym_frame.specs.declared.control.Reply.TheVariants.{Silence, Start, Ack, AckStart, Nak, Cancel}
use Rattle.ym_frame.specs.declared.frame.Item.TheVariants as item
use Rattle.ym_header.specs.Header.{HeaderParts}
use Rattle.ym_header.specs.declared.fault.HeaderFault.{HeaderFault}
use Rattle.ym_header.specs.declared.reading.Zero.{Zero}
use Rattle.ym_header.specs.declared.reading.Zero.TheVariants.{File, End}
use Rattle.ym_machine.specs.declared.confirm.Confirm.{Confirm}
use Rattle.ym_machine.specs.declared.confirm.Confirm.TheVariants.{Twice, Once}
use Rattle.ym_machine.specs.declared.limits.TheConstants.{GIVE_UP, MOST_FILES}
use Rattle.ym_core.specs.declared.delivery.Heard.{Heard}
use Rattle.ym_core.specs.declared.delivery.Heard.TheVariants as heard
use Rattle.ym_core.specs.declared.stage.OpenFile.{OpenFile}
use Rattle.ym_core.specs.declared.stage.Stage.{Stage}
use Rattle.ym_core.specs.declared.stage.Stage.TheVariants.{AwaitHeader, InFile}
use Rattle.ym_core.specs.declared.state.RecvState.{RecvState}
use Rattle.ym_core.specs.declared.state.RecvState.TheVariants as state

-- a receiver apart from its sink
pub record Receiver : Type 0 where
  pub confirm : Confirm
  pub stage : Stage
  pub files : ℕ  -- how many it has committed
  pub retries : ℕ  -- how many deliveries in a row brought no progress
  pub state : RecvState

-- the call that a step makes of the sink
pub data Call : Type 0 where
  No_call : Call
  Begins : HeaderParts → Call
  Adds : List ℕ → Call
  Commits : Call

pub record Step : Type 0 where
  pub receiver : Receiver
  pub reply : Reply
  pub call : Call

-- ---- What a line of the table does

-- progress
abbrev pub goes_on : Receiver → Reply → Call → Step
goes_on r reply call = record { receiver = record r { retries = 0 }; reply = reply; call = call }

-- no progress; the last of so many in a row ends it
abbrev pub stays : Receiver → Reply → Step
stays r reply =
    if nat_lt (r.retries + 1) GIVE_UP
    then record { receiver = record r { retries = r.retries + 1 }; reply = reply; call = No_call }
    else record {
      receiver = record r { retries = r.retries + 1; state = state.TooManyErrors };
      reply = Cancel;
      call = No_call;
    }

-- the end
abbrev pub ends : Receiver → RecvState → Reply → Step
ends r state reply = record { receiver = record r { state = state }; reply = reply; call = No_call }

-- ---- A header is awaited

-- no block, no bytes, no EOT
abbrev pub opened : HeaderParts → OpenFile
opened header = record { length = header.length; taken = 0; blocks = 0; first_eot = false }

-- a block 0, by what its body stands for
abbrev pub zero_heard : Receiver → Result Zero HeaderFault → Step
zero_heard r (Ok (File header)) =
    if nat_lt r.files MOST_FILES
    then goes_on (record r { stage = InFile (opened header) }) AckStart (Begins header)
    else ends r state.TooManyFiles Cancel
zero_heard r (Ok End) = ends r state.Finished Ack
zero_heard r (Err fault) = ends r (state.BadHeader fault) Cancel

abbrev pub awaiting_hears : Receiver → Result Zero HeaderFault → Heard → Step
awaiting_hears r zero (heard.Item (item.Block block)) =
    if block.number == 0 then zero_heard r zero
    else ends r state.OutOfStep Cancel
awaiting_hears r zero (heard.Item item.Eot) =
    if nat_lt 0 r.files then stays r AckStart
    else stays r Start
awaiting_hears r zero (heard.Item item.Cancel) = ends r state.Cancelled Silence
awaiting_hears r zero heard.Bad = stays r Start

-- ---- A file is taken

-- as many bytes of the body as are missing are added; a body past the length is dropped
abbrev pub next_block : Receiver → OpenFile → List ℕ → Step
next_block r file body =
    if nat_lt file.taken file.length
    then goes_on (record r {
      stage = InFile (record file {
        taken = file.taken + min (file.length - file.taken) (length body);
        blocks = file.blocks + 1;
      });
    }) Ack (Adds (take (file.length - file.taken) body))
    else stays (record r { stage = InFile (record file { blocks = file.blocks + 1 }) }) Ack

abbrev pub block_heard : Receiver → OpenFile → ℕ → List ℕ → Step
block_heard r file number body =
    if number == (file.blocks + 1) % 256 then next_block r file body
    else (if number == file.blocks % 256
    then (if file.blocks == 0 then stays r AckStart else stays r Ack)
    else ends r state.OutOfStep Cancel)

abbrev pub commits : Receiver → Step
commits r = goes_on (record r { stage = AwaitHeader; files = r.files + 1 }) AckStart Commits

-- an EOT behind all bytes of the file, by whether a first one was accepted
abbrev pub covered_eot : Receiver → Confirm → OpenFile → Bool → Step
covered_eot r Twice file false =
    goes_on (record r { stage = InFile (record file { first_eot = true }) }) Nak No_call
covered_eot r Twice file true = commits r
covered_eot r Once file first_eot = commits r

abbrev pub eot_heard : Receiver → OpenFile → Step
eot_heard r file =
    if nat_lt file.taken file.length then stays r Nak
    else covered_eot r r.confirm file file.first_eot

abbrev pub in_file_hears : Receiver → OpenFile → Heard → Step
in_file_hears r file (heard.Item (item.Block block)) = block_heard r file block.number block.body
in_file_hears r file (heard.Item item.Eot) = eot_heard r file
in_file_hears r file (heard.Item item.Cancel) = ends r state.Cancelled Silence
in_file_hears r file heard.Bad =
    if file.blocks == 0 then stays r Start
    else stays r Nak

-- ---- The whole table

abbrev pub running_hears : Receiver → Stage → Result Zero HeaderFault → Heard → Step
running_hears r AwaitHeader zero h = awaiting_hears r zero h
running_hears r (InFile file) zero h = in_file_hears r file h

-- a receiver that has finished knows the end block again
abbrev pub finished_reply : Heard → Reply
finished_reply (heard.Item (item.Block block)) =
    if block.number == 0 then (if slice_index block.body 0 == 0 then Ack else Silence)
    else Silence
finished_reply _ = Silence

-- `zero` is what the body of a block 0 stands for, where a header is awaited
abbrev pub hears_at : RecvState → Receiver → Result Zero HeaderFault → Heard → Step
hears_at state.Running r zero h = running_hears r r.stage zero h
hears_at state.Finished r zero h = record { receiver = r; reply = finished_reply h; call = No_call }
hears_at _ r zero h = record { receiver = r; reply = Silence; call = No_call }

abbrev pub hears : Receiver → Result Zero HeaderFault → Heard → Step
hears r zero h = hears_at r.state r zero h

-- a new receiver
abbrev pub new_receiver : Confirm → Receiver
new_receiver confirm =
    record { confirm = confirm; stage = AwaitHeader; files = 0; retries = 0; state = state.Running }
