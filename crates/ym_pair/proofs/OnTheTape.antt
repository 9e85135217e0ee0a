-- What a run is said to have heard and written is on its tape.
use Rattle.std.proofs.Common.{◌≡◌, ◌∙◌, ◌++◌, map, refl, sym, append_assoc, append-nil}
use Rattle.ym_pair.proofs.Names.{Spoke, spoke_in, last_words, answered_in, heard_in, Tape, ReceiverParts, SenderParts, spoken}
use Rattle.ym_frame.specs.Control.{reply_bytes}
use Rattle.ym_pair.specs.Logs.{AreTaken, AreHeard, words_of, replies_of}
use Rattle.ym_link.specs.ReceiveOver as receiving
use Rattle.ym_link.specs.SendOver as sending
use Rattle.ym_link.specs.SendOver.{settles}

pub sender-wrote : (s : SenderParts) (t : Tape) (out : sending.Outcome) (run : sending.Sends s t out) → out.tape.written ≡ t.written ++ (words_of (spoke_in s t out run) ++ last_words s t out run)
sender-wrote s t out (sending.unwritten _ _ is some) = sym (append-nil t.written)
sender-wrote s t out (sending.heard _ _ bytes new _ is on some gives later) = sender-wrote new _ out later ∙ simp append_assoc
sender-wrote s t out _ = refl

pub receiver-wrote : (r : ReceiverParts) (t : Tape) (out : receiving.Outcome) (run : receiving.Receives r t out) → out.tape.written ≡ t.written ++ replies_of (answered_in r t out run)
receiver-wrote r t out (receiving.heard _ _ h reply new _ is on some gives later) =
    receiver-wrote new _ out later ∙ append_assoc t.written (reply_bytes reply) (replies_of (answered_in new _ out later))
receiver-wrote r t out _ = sym (append-nil t.written)

pub sender-heard : (s : SenderParts) (t : Tape) (out : sending.Outcome) (run : sending.Sends s t out) → AreTaken t.coming (map (λ (one : Spoke). one.came) (spoke_in s t out run))
sender-heard s t out (sending.heard _ _ bytes new _ is on some gives later) = (settles s, some, sender-heard new _ out later)
sender-heard s t out _ = tt

pub receiver-heard : (r : ReceiverParts) (t : Tape) (out : receiving.Outcome) (run : receiving.Receives r t out) → AreHeard t.coming (heard_in r t out run)
receiver-heard r t out (receiving.unwritten _ _ h reply new is on some gives spoken) = (some, tt)
receiver-heard r t out (receiving.heard _ _ h reply new _ is on some gives later) = (some, receiver-heard new _ out later)
receiver-heard r t out _ = tt
