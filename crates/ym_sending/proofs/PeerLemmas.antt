-- What the calls of the engines say against any peer.
use Rattle.std.proofs.Common.{◌≡◌, ◌∙◌, ℕ, List, length, refl, sym, ap, Result}
use Rattle.std.proofs.lemmas.List.{length-map}
use Rattle.ym_core.specs.Position.{done_at}
use Rattle.ym_link.specs.History.{SenderHears, sender_none, sender_more}
use Rattle.ym_link.specs.Port.{Tape}
use Rattle.ym_link.specs.Sender.{SenderParts, Hears, counts}
use Rattle.ym_link.specs.SendOver.{Outcome, Sends, heard}
use Rattle.ym_file.specs.SourceFile.{blocks_of, counts_of}
use Rattle.ym_link.specs.Moves.{KeepsCounts}
use Rattle.ym_pair.specs.AnyPeer.{AreAcknowledged, files_positions}
use Rattle.ym_link.specs.declared.end_fault.EndFault.{EndFault}
use Rattle.ym_pair.specs.Logs.{spoke_in, spoke_along}
use Rattle.ym_sending.specs.Sending.{AcknowledgesFiles}

-- A batch has as many files as before.
same-count : KeepsCounts → (s new : SenderParts) (bytes : List ℕ) → Hears s bytes new → length new.files ≡ length s.files
same-count keeps s new bytes gives = sym (length-map new.files (blocks_of s.shape)) ∙ ap length (ap (λ shape. counts_of shape new.files) (sym gives.1.shape) ∙ keeps s _ gives.0 new gives.1) ∙ length-map s.files (blocks_of s.shape)

count-along : KeepsCounts → (s : SenderParts) (deliveries : List (List ℕ)) (progress : ℕ) (new : SenderParts) → SenderHears s deliveries progress new → length new.files ≡ length s.files
count-along keeps s deliveries progress new (sender_none _) = refl
count-along keeps s deliveries progress new (sender_more _ before steps between bytes _ hears is on short gives) =
    same-count keeps between new bytes gives ∙ count-along keeps s before steps between hears

count-in : KeepsCounts → (s : SenderParts) (t : Tape) (out : Outcome) → Sends s t out → length out.sender.files ≡ length s.files
count-in keeps s t out (heard _ _ bytes new _ is on some gives later) = count-in keeps new _ out later ∙ same-count keeps s new bytes gives
count-in keeps s t out run = refl

-- so that the files that are done are counted among those
pub acknowledges-told : KeepsCounts → (old new : SenderParts) (t u : Tape) (answer : Result Unit EndFault) (run : Sends old t (record { sender = new; tape = u; answer = answer }))
    → AreAcknowledged old.shape old.files (files_positions (counts old) (done_at (length old.files) new.standing.position)) (spoke_in old t (record { sender = new; tape = u; answer = answer }) run)
    → AcknowledgesFiles old new (spoke_in old t (record { sender = new; tape = u; answer = answer }) run)
acknowledges-told keeps old new t u answer run all = rw (count-in keeps old t (record { sender = new; tape = u; answer = answer }) run) all

pub acknowledges-along : KeepsCounts → (old new : SenderParts) (deliveries : List (List ℕ)) (progress : ℕ) (hears : SenderHears old deliveries progress new)
    → AreAcknowledged old.shape old.files (files_positions (counts old) (done_at (length old.files) new.standing.position)) (spoke_along old deliveries progress new hears)
    → AcknowledgesFiles old new (spoke_along old deliveries progress new hears)
acknowledges-along keeps old new deliveries progress hears all = rw (count-along keeps old deliveries progress new hears) all
