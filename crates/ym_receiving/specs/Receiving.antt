-- What `receive` prints and answers.
use Rattle.std.specs.Prelude.{◌≡◌, ◌≢◌, ◌⊎◌, ℕ, true, is_ok, List, Result, Ok, Err, None}
use Rattle.ym_file.specs.Counts.{Counted}
use Rattle.ym_file.specs.Kept.{Kept, IsNew}
use Rattle.ym_file.specs.declared.sink.SinkFault.{SinkFault}
use Rattle.ym_file.specs.declared.sink.SinkFault.TheVariants as sink
use Rattle.ym_machine.specs.declared.confirm.Confirm.{Confirm}
use Rattle.ym_core.specs.Receiver.{new_receiver}
use Rattle.ym_core.specs.declared.delivery.Heard.{Heard}
use Rattle.ym_core.specs.declared.state.RecvState.{RecvState}
use Rattle.ym_core.specs.declared.state.RecvState.TheVariants as state
use Rattle.ym_link.specs.History.{ReceiverHistory}
use Rattle.ym_link.specs.Port.{Tape}
use Rattle.ym_link.specs.ReceiveOver.{Outcome, Receives}
use Rattle.ym_link.specs.ReceiverInto.{ReceiverParts}
use Rattle.ym_link.specs.declared.end_fault.EndFault.{EndFault}
use Rattle.ym_link.specs.declared.end_fault.EndFault.TheVariants as end
use Rattle.ym_streams.specs.declared.streams.StreamFault.{StreamFault}
use Rattle.ym_pair.specs.AnyPeer.{CommitsTheHeard}
use Rattle.ym_pair.specs.Logs.{heard_in}
use Rattle.ym_answer.specs.Lines.{receiver_lines}
use Rattle.ym_answer.specs.Page.{Page, Prints}
use Rattle.ym_answer.specs.Status.{IsHostFault, end_fault, sink_fault, receive_answer}
use Rattle.ym_answer.specs.declared.command_fault.CommandFault.{CommandFault}
use Rattle.ym_answer.specs.declared.command_fault.CommandFault.TheVariants as fault

-- ---- The transfer

-- a receiver that has heard nothing, into a sink that holds nothing
pub record IsNewReceiver (r : ReceiverParts) : Type 0 where
  pub begins : r.receiver ≡ new_receiver r.receiver.confirm
  pub into_new : IsNew r.kept

-- how a call left the receiver and the port, and what it answered
abbrev pub receiver_end : ReceiverParts → Tape → Result Unit EndFault → Outcome
receiver_end new tape ended = record { receiver = new; tape = tape; answer = ended }

-- What an engine does with a receiver: it hears one delivery after another, and stops where it has
-- ended or at a fault. Where the port tells its events, these are the deliveries that they bring.
-- What a new receiver has committed then was spelled by them, whatever the peer is.
pub record ReceiverRuns (before after : Tape → Type 0) (old : ReceiverParts)
    (failed new_failed : ℕ) (ended : Result Unit EndFault) (new : ReceiverParts) : Type 0 where
  pub told : (u : Tape) → after u
      → (t : Tape) × before t × (run : Receives old t (receiver_end new u ended))
      × (IsNewReceiver old → CommitsTheHeard old.receiver.confirm
      (heard_in old t (receiver_end new u ended) run) new.kept)
  pub history : (deliveries : List Heard) × ReceiverHistory old deliveries new
      × (IsNewReceiver old → CommitsTheHeard old.receiver.confirm deliveries new.kept)
  pub device : ended ≡ Err end.Device → Counted failed new_failed
  pub over : is_ok ended ≡ true → new.receiver.state ≢ state.Running

-- the sink has let go of its open file; the files that it committed stay
pub record Closes (old : Kept) (failed : ℕ) (closed : Result Unit SinkFault) (new : Kept)
    (new_failed : ℕ) : Type 0 where
  pub opened : new.opened ≡ None
  pub headers : new.headers ≡ old.headers
  pub ok : is_ok closed ≡ true → new_failed ≡ failed
  pub failed_counted : (e : SinkFault) → closed ≡ Err e →
      (e ≡ sink.Failed) × Counted failed new_failed

-- the engine's fault; else that of closing the sink; else that of the output; else what the
-- receiver's end says
abbrev pub receive_gives : Result Unit EndFault → Result Unit SinkFault → Result Unit StreamFault
    → RecvState → Result ℕ CommandFault
receive_gives (Err why) closed printed state = Err (end_fault why)
receive_gives (Ok done) (Err why) printed state = Err (sink_fault why)
receive_gives (Ok done) (Ok shut) (Err why) state = Err fault.Device
receive_gives (Ok done) (Ok shut) (Ok shown) state = receive_answer state

-- the lines and the answer are those of this end of the receiver: a line for each file that its
-- sink has committed
pub record TellsReceiver (ended : Result Unit EndFault) (closed : Result Unit SinkFault)
    (r : ReceiverParts) (out : Page) (answer : Result ℕ CommandFault) (new_out : Page)
    : Type 0 where
  pub printed : Result Unit StreamFault
  pub prints : Prints out (receiver_lines r.kept.headers r.receiver.state) printed new_out
  pub answer_is : answer ≡ receive_gives ended closed printed r.receiver.state

-- ---- The command

-- nothing was received, and nothing is printed
pub record ReceivesNothing (out : Page) (answer : Result ℕ CommandFault) (new_out : Page)
    : Type 0 where
  pub why : CommandFault
  pub refused : IsHostFault why
  pub answer_is : answer ≡ Err why
  pub out_stays : new_out ≡ out

-- A new receiver into a new sink ran over some port, and its lines are printed: what it has
-- committed, of which each file has a line, was spelled by what it heard.
pub record ReceivesBatch (confirm : Confirm) (out : Page) (answer : Result ℕ CommandFault)
    (new_out : Page) : Type 0 where
  pub old : ReceiverParts
  pub new : ReceiverParts
  pub ended : Result Unit EndFault
  pub closed : Result Unit SinkFault
  pub begins : old.receiver ≡ new_receiver confirm
  pub into_new : IsNew old.kept
  pub history : (deliveries : List Heard) × ReceiverHistory old deliveries new
      × CommitsTheHeard confirm deliveries new.kept
  pub over : is_ok ended ≡ true → new.receiver.state ≢ state.Running
  pub tells : TellsReceiver ended closed new out answer new_out

-- the same of a connection that was taken, where nothing but want of memory comes before it
abbrev pub SessionGives : Confirm → Page → Result ℕ CommandFault → Page → Type 0
SessionGives confirm out answer new_out =
    ((answer ≡ Err fault.Memory) × (new_out ≡ out)) ⊎ ReceivesBatch confirm out answer new_out

abbrev pub ReceiveGives : Confirm → Page → Result ℕ CommandFault → Page → Type 0
ReceiveGives confirm out answer new_out =
    ReceivesNothing out answer new_out ⊎ ReceivesBatch confirm out answer new_out
