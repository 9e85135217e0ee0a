-- What a receiver prints.
use Rattle.std.proofs.Common.{◌≡◌, ◌∙◌, ◌++◌, ℕ, List, [], ◌∷◌, sym, ap, append_assoc, append-nil, Result}
use Rattle.ym_streams.specs.declared.streams.StreamFault.{StreamFault}
use Rattle.ym_answer.specs.Page.{Page, Prints}
use Rattle.ym_header.specs.Header.{HeaderParts}
use Rattle.ym_file.specs.Kept.{Kept}
use Rattle.ym_file.specs.declared.sink.SinkFault.{SinkFault}
use Rattle.ym_core.specs.declared.state.RecvState.{RecvState}
use Rattle.ym_link.specs.ReceiverInto.{ReceiverParts}
use Rattle.ym_link.specs.declared.end_fault.EndFault.{EndFault}
use Rattle.ym_answer.specs.Lines.{line, file_words, file_lines, receiver_lines}
use Rattle.ym_receiving.specs.Receiving.{TellsReceiver, receive_gives}
use Rattle.ym_answer.specs.declared.command_fault.CommandFault.{CommandFault}

-- the lines of one more file
pub one_more : (files : List HeaderParts) (h : HeaderParts) → file_lines (files ++ h ∷ []) ≡ file_lines files ++ line (file_words h)
one_more [] h = append-nil (line (file_words h))
one_more (x ∷ files) h = rw (one_more files h) (sym (append_assoc (line (file_words x)) (file_lines files) (line (file_words h))))

-- of the headers that a sink tells after it was closed
pub tells_receiver : (ended : Result Unit EndFault) (closed : Result Unit SinkFault) (r : ReceiverParts) (kept : Kept) (headers : List HeaderParts) (state : RecvState)
    (printed : Result Unit StreamFault) (old new : Page) (answer : Result ℕ CommandFault) → headers ≡ kept.headers → kept.headers ≡ r.kept.headers → state ≡ r.receiver.state
    → Prints old (receiver_lines headers state) printed new → answer ≡ receive_gives ended closed printed state → TellsReceiver ended closed r old answer new
tells_receiver ended closed r kept headers state printed old new answer h i e prints is =
    record {
      printed = printed;
      prints = rw (← i, ← h, ← e) prints;
      answer_is = is ∙ ap (receive_gives ended closed printed) e;
    }
