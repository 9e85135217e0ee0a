-- Where a receiver stands that has taken the first so many frames of a batch, and what it hears of
-- a frame.
use Rattle.std.specs.Prelude.{ℕ, ◌+◌, ◌-◌, ◌≡◌, ◌≤◌, ◌<◌, ◌⊎◌, nat_le, suc, zero, List, [], ◌∷◌, length, map, take, Option, None, Some, Bool, if◌then◌else◌, All}
use Rattle.ym_frame.specs.declared.control.Reply.{Reply}
use Rattle.ym_frame.specs.declared.frame.Item.{Item}
use Rattle.ym_frame.specs.declared.frame.Item.TheVariants as item
use Rattle.ym_header.specs.Header.{HeaderParts, IsHeader, length_limit}
use Rattle.ym_header.specs.Text.{text, end_text}
use Rattle.ym_file.specs.Kept.{Kept, Told}
use Rattle.ym_file.specs.Collecting.{keep_all}
use Rattle.ym_machine.specs.declared.confirm.Confirm.{Confirm}
use Rattle.ym_machine.specs.Frames.{File, Frame, BlockZero, Piece, Eot, EndBlock, frames_of, frame_at, count_within, files_within}
use Rattle.ym_machine.specs.Steps.{Sound, At, Can, Bad, receiver_step}
use Rattle.ym_machine.specs.Steps as machine
use Rattle.ym_machine.specs.State.{ReceiverEnd, State, said}
use Rattle.ym_core.specs.declared.delivery.Heard.{Heard}
use Rattle.ym_core.specs.declared.delivery.Heard.TheVariants as heard
use Rattle.ym_core.specs.declared.stage.Stage.{Stage}
use Rattle.ym_core.specs.declared.stage.Stage.TheVariants.{AwaitHeader, InFile}
use Rattle.ym_core.specs.declared.state.RecvState.{RecvState}
use Rattle.ym_core.specs.declared.state.RecvState.TheVariants as state
use Rattle.ym_core.specs.Receiver.{Receiver}
use Rattle.ym_link.specs.ReceiverInto.{ReceiverParts, Tells}
use Rattle.ym_machine.specs.declared.limits.TheConstants.{MOST_FILES}

-- ---- A batch

-- what is kept of the first k pieces of a file
abbrev pub kept_after : File HeaderParts → ℕ → List ℕ
kept_after file k = keep_all file.header.length [] (take k file.pieces)

-- its bytes: what is kept of all its pieces
abbrev pub bytes_of : File HeaderParts → List ℕ
bytes_of file = kept_after file (length file.pieces)

-- a file whose last piece, and no earlier one, covers its length
pub record IsSent (file : File HeaderParts) : Type 0 where
  pub header : IsHeader length_limit file.header
  pub missing : (k : ℕ) → k < length file.pieces → length (kept_after file k) < file.header.length
  pub covered : file.header.length ≤ length (bytes_of file)

pub record IsBatch (files : List (File HeaderParts)) : Type 0 where
  pub sent : All IsSent files
  pub few : length files ≤ MOST_FILES

-- ---- What is heard

abbrev pub item_of : Frame HeaderParts → Item
item_of (BlockZero header) = item.Block (record { number = 0; body = text header })
item_of (Piece number body) = item.Block (record { number = number; body = body })
item_of Eot = item.Eot
item_of EndBlock = item.Block (record { number = 0; body = end_text })

-- a delivery, of what the machine's receiver hears
abbrev pub heard_as : List (Frame HeaderParts) → Sound → Heard
heard_as frames (At i) = heard.Item (item_of (frame_at frames i))
heard_as frames Can = heard.Item item.Cancel
heard_as frames Bad = heard.Bad

-- a frame that is heard is the next one, or the one that was taken last
abbrev pub IsNextOrLast : List (Frame HeaderParts) → Sound → ℕ → Type 0
IsNextOrLast frames (At i) taken = (i < length frames) × ((i ≡ taken) ⊎ (i + 1 ≡ taken))
IsNextOrLast frames Can taken = Unit {0}
IsNextOrLast frames Bad taken = Unit {0}

-- ---- Where it stands

-- the file that is open behind the first n frames, and how many of its pieces were taken
abbrev pub open_at : {H : Type 0} → List (File H) → ℕ → Option (File H × ℕ)
open_at [] n = None
open_at (file ∷ files) zero = None
open_at (file ∷ files) (suc n) =
    if nat_le n (length file.pieces) then Some (file, n)
    else open_at files (n - (length file.pieces + 1))

abbrev pub stage_of : Option (File HeaderParts × ℕ) → Bool → Stage
stage_of None first_eot = AwaitHeader
stage_of (Some open_file) first_eot = InFile (record {
  length = open_file.0.header.length;
  taken = length (kept_after open_file.0 open_file.1);
  blocks = open_file.1;
  first_eot = first_eot;
})

abbrev pub opened_of : Option (File HeaderParts × ℕ) → Option HeaderParts
opened_of None = None
opened_of (Some open_file) = Some open_file.0.header

abbrev pub open_bytes_of : Option (File HeaderParts × ℕ) → List ℕ
open_bytes_of None = []
open_bytes_of (Some open_file) = kept_after open_file.0 open_file.1

-- the files committed are the first ones of the batch, each with its header and, where they are
-- told, its bytes
pub record KeepsFirst (files : List (File HeaderParts)) (n : ℕ) (kept : Kept) : Type 0 where
  pub headers : kept.headers ≡ map (λ (f : File HeaderParts). f.header) (files_within files n)
  pub bytes : (told : Told) →
      kept.told ≡ Some told → told.files ≡ map bytes_of (files_within files n)

-- the open file is that of the batch, with the bytes of the pieces taken
pub record KeepsOpen (open_file : Option (File HeaderParts × ℕ)) (kept : Kept) : Type 0 where
  pub opened : kept.opened ≡ opened_of open_file
  pub taken : kept.taken ≡ length (open_bytes_of open_file)
  pub bytes : (told : Told) → kept.told ≡ Some told → told.open_bytes ≡ open_bytes_of open_file

abbrev pub state_of : ReceiverEnd → RecvState
state_of ReceiverEnd.Running = state.Running
state_of ReceiverEnd.Finished = state.Finished
state_of ReceiverEnd.Cancelled = state.Cancelled
state_of ReceiverEnd.TooManyErrors = state.TooManyErrors
state_of ReceiverEnd.SinkFailed = state.SinkFailed

-- a running receiver that has taken the first n frames
abbrev pub receiver_at : Confirm → List (File HeaderParts) → State → Receiver
receiver_at confirm files st = record {
  confirm = confirm;
  stage = stage_of (open_at files st.taken) st.first_eot;
  files = count_within files st.taken;
  retries = st.receiver_retries;
  state = state.Running;
}

-- a receiver, with what its sink tells, refines a state of the machine
pub record ReceiverRefines (confirm : Confirm) (files : List (File HeaderParts)) (st : State)
    (r : Receiver) (kept : Kept) : Type 0 where
  pub confirm_is : r.confirm ≡ confirm
  pub state_is : r.state ≡ state_of st.receiver
  pub files_is : r.files ≡ count_within files st.taken
  pub keeps : KeepsFirst files st.taken kept
  pub running : st.receiver ≡ ReceiverEnd.Running → r ≡ receiver_at confirm files st
  pub keeps_open : st.receiver ≡ ReceiverEnd.Running → KeepsOpen (open_at files st.taken) kept

-- it has gone where the machine goes, with its reply
pub record Goes (confirm : Confirm) (files : List (File HeaderParts)) (answer : State × Reply)
    (reply : Reply) (new : ReceiverParts) : Type 0 where
  pub reply_is : reply ≡ answer.1
  pub refines : ReceiverRefines confirm files answer.0 new.receiver new.kept

-- what it hears in the receiver step, where the delivery is whole or not
abbrev pub heard_there : List (File HeaderParts) → Bool → State → Heard
heard_there files whole st = heard_as (frames_of files) (machine.heard whole (said st))

-- a delivery takes it where the receiver step takes the machine, with the truth whether its sink
-- failed
abbrev pub Follows : Confirm → List (File HeaderParts) → Bool → State → ReceiverParts → Reply →
    ReceiverParts → Type 0
Follows confirm files whole st old reply new =
    (failed : Bool) × Tells failed old.failures new.failures ×
    Goes confirm files (receiver_step (frames_of files) confirm failed whole st) reply new
