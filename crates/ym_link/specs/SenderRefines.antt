-- A sender that refines a state of the machine of two counters.
use Rattle.std.specs.Prelude.{◌≡◌, ℕ, ◌+◌, ◌-◌, ◌==◌, nat_lt, suc, zero, if◌then◌else◌, Bool, true, false, List, [], ◌∷◌, length, map, replicate, All, IfSome, IsSome, Option, None, Some}
use Rattle.std.specs.List.{AllZip}
use Rattle.ym_frame.specs.Frame.{IsFrame}
use Rattle.ym_header.specs.Header.{HeaderParts}
use Rattle.ym_file.specs.declared.plan.Shape.{Shape}
use Rattle.ym_file.specs.Plan.{pieces_of}
use Rattle.ym_machine.specs.Frames.{File, frames_of, frame_at}
use Rattle.ym_machine.specs.State.{State, SenderEnd, Speech, Nothing, FrameAt, CanCan}
use Rattle.ym_file.specs.SourceFile.{FileParts, blocks_of}
use Rattle.ym_link.specs.ReceiverRefines.{item_of}
use Rattle.ym_link.specs.Sender.{SenderParts}
use Rattle.ym_core.specs.declared.position.Position.{Position}
use Rattle.ym_core.specs.declared.position.Position.TheVariants.{Header, Block, Eot, End}
use Rattle.ym_core.specs.declared.position.Mode.{Mode}
use Rattle.ym_core.specs.declared.position.Mode.TheVariants.{Waiting, Sent}
use Rattle.ym_core.specs.declared.standing.Standing.{Standing}
use Rattle.ym_core.specs.declared.state.SendState.{SendState}
use Rattle.ym_core.specs.declared.state.SendState.TheVariants as state

-- ---- The batch

-- a batch as the machine has it, with whole headers
abbrev pub Batch : Type 0
Batch = List (File HeaderParts)

-- a file with a source is this file of the machine; where the source tells no bytes, only the
-- number of pieces is known
pub record IsFileOf (shape : Shape) (source : FileParts) (file : File HeaderParts) : Type 0 where
  pub header : file.header ≡ source.header
  pub count : length file.pieces ≡ blocks_of shape source
  pub pieces : IfSome source.bytes (λ all. file.pieces ≡ pieces_of shape all)

abbrev pub told_pieces : Shape → ℕ → Option (List ℕ) → List (List ℕ)
told_pieces shape count None = replicate count []
told_pieces shape count (Some all) = pieces_of shape all

-- the machine's file, with empty pieces where the source tells no bytes
abbrev pub file_of : Shape → FileParts → File HeaderParts
file_of shape source = record {
  header = source.header;
  pieces = told_pieces shape (blocks_of shape source) source.bytes;
}

abbrev pub batch_of : Shape → List FileParts → Batch
batch_of shape sources = map (file_of shape) sources

-- ---- The position

-- how many data blocks each file has
abbrev pub counts_in : Batch → List ℕ
counts_in [] = []
counts_in (file ∷ files) = length file.pieces ∷ counts_in files

-- the place of F[n], where the first file of the list has number i; behind the list it is the end
-- block's
abbrev pub position_from : ℕ → Batch → ℕ → Position
position_from i [] n = End
position_from i (file ∷ files) zero = Header i
position_from i (file ∷ files) (suc n) =
    if nat_lt n (length file.pieces) then Block i (n + 1) else
    if n == length file.pieces then Eot i else
    position_from (i + 1) files (n - (length file.pieces + 1))

abbrev pub position_at : Batch → ℕ → Position
position_at files n = position_from 0 files n

-- ---- How it stands

abbrev pub state_of : SenderEnd → SendState
state_of SenderEnd.Running = state.Running
state_of SenderEnd.Finished = state.Finished
state_of SenderEnd.Cancelled = state.Cancelled
state_of SenderEnd.NoReply = state.NoReply
state_of SenderEnd.SourceFailed = state.SourceFailed

abbrev pub mode_of : Bool → Mode
mode_of true = Sent
mode_of false = Waiting

-- only a sender that gave up, or whose source failed, has CAN CAN to go
abbrev pub cancel_pending_of : SenderEnd → Bool → Bool
cancel_pending_of SenderEnd.NoReply cancel_pending = cancel_pending
cancel_pending_of SenderEnd.SourceFailed cancel_pending = cancel_pending
cancel_pending_of _ cancel_pending = false

-- its standing is that of the machine's sender; the mode and the retries are told of one that runs
pub record RefinesAt (files : Batch) (st : State) (s : Standing) : Type 0 where
  pub state : s.state ≡ state_of st.sender
  pub cancel_pending : s.cancel_pending ≡ cancel_pending_of st.sender st.cancel_pending
  pub position : s.position ≡ position_at files st.acknowledged
  pub mode : st.sender ≡ SenderEnd.Running → s.mode ≡ mode_of st.sent
  pub retries : st.sender ≡ SenderEnd.Running → s.retries ≡ st.sender_retries

-- a sender of this batch refines that state
pub record SenderRefines (files : Batch) (st : State) (s : SenderParts) : Type 0 where
  pub standing : RefinesAt files st s.standing
  pub batch : AllZip (IsFileOf s.shape) s.files files

-- ---- What it says

-- the bytes of what the machine's sender has to say
abbrev pub IsSaid : Batch → Speech → Option (List ℕ) → Type 0
IsSaid files Nothing bytes = bytes ≡ None
IsSaid files (FrameAt i) bytes =
    (frame : List ℕ) × (bytes ≡ Some frame) × IsFrame (item_of (frame_at (frames_of files) i)) frame
IsSaid files CanCan bytes = bytes ≡ Some (0x18 ∷ 0x18 ∷ [])

-- each source tells its bytes
abbrev pub AllTold : List FileParts → Type 0
AllTold files = All (λ (f : FileParts). IsSome f.bytes) files
