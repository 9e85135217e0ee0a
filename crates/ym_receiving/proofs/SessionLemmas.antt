-- Sessions of `receive`.
use Rattle.std.proofs.Common.{◌≡◌, ◌∙◌, ℕ, Result, sym, ap}
use Rattle.ym_file.specs.Kept.{IsNew}
use Rattle.ym_file.specs.declared.sink.SinkFault.{SinkFault}
use Rattle.ym_machine.specs.declared.confirm.Confirm.{Confirm}
use Rattle.ym_core.specs.Receiver.{Receiver, new_receiver}
use Rattle.ym_link.specs.Port.{Tape}
use Rattle.ym_link.specs.ReceiverInto.{ReceiverParts}
use Rattle.ym_link.specs.declared.end_fault.EndFault.{EndFault}
use Rattle.ym_answer.specs.Page.{Page}
use Rattle.ym_receiving.specs.Receiving.{IsNewReceiver, ReceiverRuns, TellsReceiver, ReceivesBatch}
use Rattle.ym_answer.specs.declared.command_fault.CommandFault.{CommandFault}

-- a new receiver ran
pub batch : (confirm : Confirm) (old new : ReceiverParts) (before after : Tape → Type 0) (failed new_failed : ℕ) (ended : Result Unit EndFault) (closed : Result Unit SinkFault)
    (out : Page) (answer : Result ℕ CommandFault) (new_out : Page) → ReceiverRuns before after old failed new_failed ended new
    → TellsReceiver ended closed new out answer new_out → old.receiver ≡ new_receiver confirm → IsNew old.kept → ReceivesBatch confirm out answer new_out
batch confirm old new before after failed new_failed ended closed out answer new_out runs tells begins into_new =
    let same : old.receiver.confirm ≡ confirm = ap (λ (r : Receiver). r.confirm) begins in
    let is_new : IsNewReceiver old = record { begins = begins ∙ ap new_receiver (sym same); into_new = into_new } in
    record {
      old = old;
      new = new;
      ended = ended;
      closed = closed;
      begins = begins;
      into_new = into_new;
      history = (runs.history.0, runs.history.1, rw same at (runs.history.2 is_new));
      over = runs.over;
      tells = tells;
    }
