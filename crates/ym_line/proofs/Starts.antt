-- New ends stand at the start.
use Rattle.std.proofs.Common.{◌≡◌, ◌∙◌, ◌≤◌, ℕ, List, [], ◌∷◌, length, Option, None, Some, IfSome, IsSome, All, false, refl, sym, ap}
use Rattle.std.proofs.lemmas.List.{length-map}
use Rattle.std.proofs.lemmas.List.Elements.{All-map}
use Rattle.ym_line.proofs.Names.{MOST_FILES, HeaderParts, IsHeader, length_limit, IsPieces, pieces_of, Shape, Position, IsBatch, AllTold, batch_of, file_of, told_pieces, FileParts, IsFile, AreNew, Pair, PairRefines}
use Rattle.ym_file.specs.SourceFile.{counts_of}
use Rattle.ym_machine.specs.Machine.{start}
use Rattle.ym_machine.specs.declared.confirm.Confirm.{Confirm}
use Rattle.ym_file.specs.Kept.{IsNew}
use Rattle.ym_core.specs.Position.{first_of}
use Rattle.ym_core.specs.Receiver.{Receiver, new_receiver}
use Rattle.ym_core.specs.Standing.{new_standing}
use Rattle.ym_core.specs.declared.position.Mode.TheVariants.{Waiting}
use Rattle.ym_core.specs.declared.standing.Standing.{Standing}
use Rattle.ym_core.specs.declared.state.SendState.TheVariants.{Running}
use Rattle.ym_link.specs.ReceiverRefines.{IsSent}
use Rattle.ym_line.specs.Promise.{first_position}

-- a file that is cut by a plan is sent whole
abbrev pub PlannedIsSent : Type 0
PlannedIsSent = (shape : Shape) (header : HeaderParts) (bytes : List ℕ) (pieces : List (List ℕ)) →
    IsHeader length_limit header → header.length ≡ length bytes → IsPieces shape bytes pieces → IsSent (record { header = header; pieces = pieces })

told-sent : PlannedIsSent → ((shape : Shape) (file : List ℕ) → IsPieces shape file (pieces_of shape file)) → (shape : Shape) (count : ℕ) (header : HeaderParts) (bytes : Option (List ℕ)) →
    IsHeader length_limit header → IfSome bytes (λ all. length all ≡ header.length) → IsSome bytes → IsSent (record { header = header; pieces = told_pieces shape count bytes })
told-sent sent pieces shape count header None within sized told = absurd (cc)
told-sent sent pieces shape count header (Some all) within sized told = sent shape header all (pieces_of shape all) within (sym sized) (pieces shape all)

pub batch-is : PlannedIsSent → ((shape : Shape) (file : List ℕ) → IsPieces shape file (pieces_of shape file)) → (shape : Shape) (sources : List FileParts) →
    All IsFile sources → AllTold sources → length sources ≤ MOST_FILES → IsBatch (batch_of shape sources)
batch-is sent pieces shape sources files told few = record {
  sent = All-map IsSent (file_of shape) sources
      (λ k d below. told-sent sent pieces shape _ _ _ (files k d below).header (files k d below).bytes (told k d below));
  few = rw (length-map sources (file_of shape)) few;
}

-- a batch begins at its first place
first-is : (shape : Shape) (sources : List FileParts) → first_of (counts_of shape sources) ≡ first_position sources
first-is shape [] = refl
first-is shape (source ∷ sources) = refl

abbrev waiting_at : Position → Standing
waiting_at position = record { position = position; mode = Waiting; retries = 0; state = Running; cancel_pending = false }

-- new ends are those that are made so
pub new-refines : (pair : Pair) → AreNew pair →
    PairRefines pair.receiver.receiver.confirm (batch_of pair.sender.shape pair.sender.files) start (record {
      sender = record { standing = new_standing (counts_of pair.sender.shape pair.sender.files); shape = pair.sender.shape; files = pair.sender.files; frame = pair.sender.frame };
      receiver = record { receiver = new_receiver pair.receiver.receiver.confirm; kept = pair.receiver.kept; failures = pair.receiver.failures };
      told = pair.told;
      failures = pair.failures;
    }) → PairRefines pair.receiver.receiver.confirm (batch_of pair.sender.shape pair.sender.files) start pair
new-refines pair new made =
    let standing : pair.sender.standing ≡ new_standing (counts_of pair.sender.shape pair.sender.files) = new.sender ∙ sym (ap waiting_at (first-is pair.sender.shape pair.sender.files)) in
    rw (← standing, ← new.receiver) at made

-- those that are made so are new
pub made-new : (pair : Pair) (confirm : Confirm) → pair.sender.standing ≡ new_standing (counts_of pair.sender.shape pair.sender.files) →
    length pair.sender.files ≤ MOST_FILES → AllTold pair.sender.files → pair.receiver.receiver ≡ new_receiver confirm → IsNew pair.receiver.kept → AreNew pair
made-new pair confirm sender few tells receiver sink = record {
  sender = sender ∙ ap waiting_at (first-is pair.sender.shape pair.sender.files);
  tells = tells;
  few = few;
  receiver = receiver ∙ ap new_receiver (sym (ap (λ (r : Receiver). r.confirm) receiver));
  sink = sink;
}
