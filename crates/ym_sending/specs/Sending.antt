-- What `send` prints and answers.
use Rattle.std.specs.Prelude.{◌≡◌, ◌≢◌, ◌<◌, ◌⊎◌, ℕ, true, is_ok, List, [], length, map, All, Result, Ok, Err, unwrap_or, slice_index_or}
use Rattle.std.specs.Path.{path_file_name}
use Rattle.ym_header.specs.Header.{HeaderParts, IsName}
use Rattle.ym_header.specs.declared.stamp.Stamp.TheVariants.{Nothing}
use Rattle.ym_file.specs.Counts.{Counted}
use Rattle.ym_file.specs.declared.plan.Shape.{Shape}
use Rattle.ym_core.specs.Position.{done_at}
use Rattle.ym_core.specs.Standing.{new_standing}
use Rattle.ym_core.specs.declared.state.SendState.{SendState}
use Rattle.ym_core.specs.declared.state.SendState.TheVariants as state
use Rattle.ym_link.specs.History.{SenderHistory}
use Rattle.ym_link.specs.Port.{Tape}
use Rattle.ym_link.specs.Sender.{SenderParts, counts}
use Rattle.ym_link.specs.SendOver.{Outcome, Sends}
use Rattle.ym_file.specs.SourceFile.{FileParts}
use Rattle.ym_link.specs.declared.end_fault.EndFault.{EndFault}
use Rattle.ym_link.specs.declared.end_fault.EndFault.TheVariants as end
use Rattle.ym_machine.specs.declared.limits.TheConstants.{MOST_FILES}
use Rattle.ym_streams.specs.declared.streams.StreamFault.{StreamFault}
use Rattle.ym_pair.specs.AnyPeer.{AreAcknowledged, files_positions}
use Rattle.ym_pair.specs.Logs.{Spoke, spoke_in, spoke_along}
use Rattle.ym_answer.specs.Lines.{sender_line}
use Rattle.ym_answer.specs.Page.{Page, Prints}
use Rattle.ym_answer.specs.Status.{IsHostFault, end_fault, send_answer}
use Rattle.ym_answer.specs.declared.command_fault.CommandFault.{CommandFault}
use Rattle.ym_answer.specs.declared.command_fault.CommandFault.TheVariants as fault

-- ---- The batch

-- the last part of a path, under which its file is sent; the root and a path that ends in `..` have
-- none
abbrev pub last_part : List ℕ → List ℕ
last_part path = unwrap_or (path_file_name path) []

-- of a file of this length at this path; no stamp is sent
abbrev pub header_at : List ℕ → ℕ → HeaderParts
header_at path size = record { name = last_part path; length = size; stamp = Nothing }

-- the files of these paths, in order: each under the last part of its path, without a stamp
pub record IsBatch (paths : List (List ℕ)) (files : List FileParts) : Type 0 where
  pub names : map (λ (file : FileParts). file.header.name) files ≡ map last_part paths
  pub stamps : All (λ (file : FileParts). file.header.stamp ≡ Nothing) files

-- why a file of this name is not sent: it cannot be looked at, its name is refused, its name is
-- fine and its length is refused, or memory ran out
abbrev pub MayRefuse : List ℕ → CommandFault → Type 0
MayRefuse name fault.Port = ⊥
MayRefuse name fault.Name = ¬ IsName name
MayRefuse name fault.Length = IsName name
MayRefuse name fault.TooManyFiles = ⊥
MayRefuse name fault.Closed = ⊥
MayRefuse name fault.Device = Unit {0}
MayRefuse name fault.Memory = Unit {0}

-- the first file that is not sent, and why: those before it have names that a header may have
pub record RefusesFile (paths : List (List ℕ)) (why : CommandFault) : Type 0 where
  pub position : ℕ
  pub within : position < length paths
  pub before : (j : ℕ) → j < position → IsName (last_part (slice_index_or paths j []))
  pub refused : MayRefuse (last_part (slice_index_or paths position [])) why

-- why nothing was sent, the first that applies: a file of the batch, the number of files, or the
-- connection
abbrev pub RefusesBatch : List (List ℕ) → CommandFault → Type 0
RefusesBatch paths why =
    RefusesFile paths why ⊎ ((why ≡ fault.TooManyFiles) × (MOST_FILES < length paths))

-- a sender of these files that has heard nothing
pub record IsNewSender (shape : Shape) (paths : List (List ℕ)) (s : SenderParts) : Type 0 where
  pub shape_is : s.shape ≡ shape
  pub batch : IsBatch paths s.files
  pub standing : s.standing ≡ new_standing (counts s)

-- ---- The transfer

-- Each frame of each file that a sender reports as done was acknowledged, in order, while it was
-- what had been written last.
abbrev pub AcknowledgesFiles : SenderParts → SenderParts → List Spoke → Type 0
AcknowledgesFiles old new spoke =
    AreAcknowledged old.shape old.files
    (files_positions (counts old) (done_at (length new.files) new.standing.position)) spoke

-- how a call left the sender and the port, and what it answered
abbrev pub sender_end : SenderParts → Tape → Result Unit EndFault → Outcome
sender_end new tape ended = record { sender = new; tape = tape; answer = ended }

-- What an engine does with a sender: it hears one delivery after another, and stops where it has
-- ended or at a fault. Where the port tells its events, these are the deliveries that they bring.
-- They have acknowledged what a new sender then reports as done, whatever the peer is.
pub record SenderRuns (before after : Tape → Type 0) (old : SenderParts) (failed new_failed : ℕ)
    (ended : Result Unit EndFault) (new : SenderParts) : Type 0 where
  pub told : old.standing.state ≡ state.Running → (u : Tape) → after u
      → (t : Tape) × before t × (run : Sends old t (sender_end new u ended))
      × (old.standing ≡ new_standing (counts old)
      → AcknowledgesFiles old new (spoke_in old t (sender_end new u ended) run))
  pub history : (deliveries : List (List ℕ)) × (heard : SenderHistory old deliveries new)
      × (old.standing ≡ new_standing (counts old)
      → AcknowledgesFiles old new (spoke_along old deliveries heard.progress new heard.hears))
  pub device : ended ≡ Err end.Device → Counted failed new_failed
  pub memory : ended ≢ Err end.Memory
  pub over : is_ok ended ≡ true → new.standing.state ≢ state.Running

-- the engine's fault; else that of the output; else what the sender's end says
abbrev pub send_gives :
    Result Unit EndFault → Result Unit StreamFault → SendState → Result ℕ CommandFault
send_gives (Err why) printed state = Err (end_fault why)
send_gives (Ok done) (Err why) state = Err fault.Device
send_gives (Ok done) (Ok shown) state = send_answer state

-- the line and the answer are those of this end of the sender
pub record TellsSender (ended : Result Unit EndFault) (s : SenderParts) (out : Page)
    (answer : Result ℕ CommandFault) (new_out : Page) : Type 0 where
  pub printed : Result Unit StreamFault
  pub prints : Prints out
      (sender_line (done_at (length s.files) s.standing.position) s.standing.state) printed new_out
  pub answer_is : answer ≡ send_gives ended printed s.standing.state

-- A sender ran over some port, and its line is printed: the frames of the files that the line
-- counts were acknowledged, where the sender was new.
pub record SendsOn (old new : SenderParts) (out : Page) (answer : Result ℕ CommandFault)
    (new_out : Page) : Type 0 where
  pub ended : Result Unit EndFault
  pub history : (deliveries : List (List ℕ)) × (heard : SenderHistory old deliveries new)
      × (old.standing ≡ new_standing (counts old)
      → AcknowledgesFiles old new (spoke_along old deliveries heard.progress new heard.hears))
  pub memory : ended ≢ Err end.Memory
  pub over : is_ok ended ≡ true → new.standing.state ≢ state.Running
  pub tells : TellsSender ended new out answer new_out

-- ---- The command

-- nothing was sent, and nothing is printed
pub record SendsNothing (paths : List (List ℕ)) (out : Page) (answer : Result ℕ CommandFault)
    (new_out : Page) : Type 0 where
  pub why : CommandFault
  pub refused : RefusesBatch paths why ⊎ IsHostFault why
  pub answer_is : answer ≡ Err why
  pub out_stays : new_out ≡ out

-- a sender of the files ran over some port, and its line is printed
pub record SendsBatch (shape : Shape) (paths : List (List ℕ)) (out : Page)
    (answer : Result ℕ CommandFault) (new_out : Page) : Type 0 where
  pub old : SenderParts
  pub new : SenderParts
  pub begins : IsNewSender shape paths old
  pub on : SendsOn old new out answer new_out

abbrev pub SendGives : Shape → List (List ℕ) → Page → Result ℕ CommandFault → Page → Type 0
SendGives shape paths out answer new_out =
    SendsNothing paths out answer new_out ⊎ SendsBatch shape paths out answer new_out
