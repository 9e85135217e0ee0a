-- What a sender prints.
use Rattle.std.proofs.Common.{◌≡◌, ◌∙◌, ℕ, List, length, ap, Result, Ok, Err, OnOk, OnErr}
use Rattle.std.specs.Io.KnownBytes.{Appends}
use Rattle.ym_file.specs.Counts.{Counted}
use Rattle.ym_streams.specs.declared.streams.StreamFault.{StreamFault}
use Rattle.ym_answer.specs.Page.{Page, Prints}
use Rattle.ym_core.specs.Position.{done_at}
use Rattle.ym_core.specs.declared.state.SendState.{SendState}
use Rattle.ym_link.specs.Sender.{SenderParts}
use Rattle.ym_link.specs.declared.end_fault.EndFault.{EndFault}
use Rattle.ym_answer.specs.Lines.{sender_line}
use Rattle.ym_sending.specs.Sending.{TellsSender, send_gives}
use Rattle.ym_answer.specs.declared.command_fault.CommandFault.{CommandFault}

-- what a write of a line says
pub printed_line : (printed : Result Unit StreamFault) (old new : Page) (text : List ℕ) → OnOk printed (Appends old.holds new.holds text)
    → OnOk printed (new.failed ≡ old.failed) → OnErr printed (Counted old.failed new.failed) → Prints old text printed new
printed_line (Ok done) old new text bytes same counted_failure = (bytes, same)
printed_line (Err fault) old new text bytes same counted_failure = counted_failure

-- of a line whose numbers are known
pub tells_sender : (ended : Result Unit EndFault) (s : SenderParts) (done : ℕ) (state : SendState) (printed : Result Unit StreamFault) (old new : Page) (answer : Result ℕ CommandFault)
    → done ≡ done_at (length s.files) s.standing.position → state ≡ s.standing.state
    → OnOk printed (Appends old.holds new.holds (sender_line done state)) → OnOk printed (new.failed ≡ old.failed) → OnErr printed (Counted old.failed new.failed)
    → answer ≡ send_gives ended printed state → TellsSender ended s old answer new
tells_sender ended s done state printed old new answer d e bytes same counted_failure is =
    record {
      printed = printed;
      prints = rw (← d, ← e) (printed_line printed old new (sender_line done state) bytes same counted_failure);
      answer_is = is ∙ ap (send_gives ended printed) e;
    }
