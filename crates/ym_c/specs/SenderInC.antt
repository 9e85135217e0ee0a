-- A sender as C keeps it.
use Rattle.std.specs.Prelude.{ℕ, Bool, false, ◌*◌, ◌≡◌, ◌<◌, ◌≤◌, ◌^◌, List, [], ◌∷◌, length, take, Option, Some, None, refl}
use Rattle.ym_frame.specs.declared.control.Control.{Control}
use Rattle.ym_frame.specs.Seal.{IsBlockFrame}
use Rattle.ym_header.specs.Text.{end_text}
use Rattle.ym_core.specs.Position.{IsPosition}
use Rattle.ym_core.specs.Standing.{hears, step}
use Rattle.ym_core.specs.declared.position.Position.{Position}
use Rattle.ym_core.specs.declared.position.Position.TheVariants.{Header, Block, Eot, End}
use Rattle.ym_core.specs.declared.position.Mode.{Mode}
use Rattle.ym_core.specs.declared.position.Mode.TheVariants.{Waiting, Sent}
use Rattle.ym_core.specs.declared.standing.Standing.{Standing}
use Rattle.ym_core.specs.declared.state.SendState.{SendState}
use Rattle.ym_core.specs.declared.state.SendState.TheVariants.{Running, Finished, NoReply, Cancelled, SourceFailed}
use Rattle.ym_c.specs.declared.sender.YmSender.{YmSender}
use Rattle.ym_c.specs.declared.sender.YmFill.{YmFill}
use Rattle.ym_c.specs.Codes.{bool_code}
use Rattle.ym_machine.specs.declared.limits.TheConstants.{GIVE_UP, MOST_FILES}

abbrev pub KeepsPosition : YmSender → Position → Type 0
KeepsPosition s (Header file) = (s.place ≡ 0) × (s.file ≡ file)
KeepsPosition s (Block file k) = (s.place ≡ 1) × (s.file ≡ file) × (s.number ≡ k)
KeepsPosition s (Eot file) = (s.place ≡ 2) × (s.file ≡ file)
KeepsPosition s End = s.place ≡ 3

-- the number of the file fits the field
abbrev pub FitsC : Position → Type 0
FitsC (Header file) = file < 2 ^ 32
FitsC (Block file k) = file < 2 ^ 32
FitsC (Eot file) = file < 2 ^ 32
FitsC End = Unit {0}

abbrev pub mode_code : Mode → ℕ
mode_code Waiting = 0
mode_code Sent = 1

abbrev pub send_code : SendState → ℕ
send_code Running = 0
send_code Finished = 1
send_code NoReply = 2
send_code Cancelled = 3
send_code SourceFailed = 4

-- the numbers are those of where this sender stands
pub record KeepsStanding (s : YmSender) (standing : Standing) : Type 0 where
  pub position : KeepsPosition s standing.position
  pub mode : s.mode ≡ mode_code standing.mode
  pub retries : s.retries ≡ standing.retries
  pub state : s.state ≡ send_code standing.state
  pub cancel_pending : s.cancel_pending ≡ bool_code standing.cancel_pending
  pub room : s.len ≤ 1029

-- where a sender of a batch of so many blocks a file can come to stand; a batch has at most 65,535
-- files
pub record Stands (blocks : List ℕ) (standing : Standing) : Type 0 where
  pub position : IsPosition blocks standing.position
  pub retries : standing.retries ≤ GIVE_UP
  pub runs : standing.state ≡ Running → standing.retries < GIVE_UP
  pub few : length blocks ≤ MOST_FILES

-- numbers that no sender of this batch has
abbrev pub IsNoSender : List ℕ → YmSender → Type 0
IsNoSender blocks kept = (s : Standing) → KeepsStanding kept s → ¬ Stands blocks s

-- what they count as: a sender that has ended, with nothing to send
abbrev pub ended_standing : Standing
ended_standing = record {
  position = End;
  mode = Waiting;
  retries = 0;
  state = NoReply;
  cancel_pending = false;
}

-- whatever such a one hears, it stays, and fills nothing
stays_ended :
    (blocks : List ℕ) (controls : List Control) →
    hears blocks ended_standing controls ≡ step ended_standing
stays_ended blocks controls = refl

-- A sender that runs has a frame of this kind out that its host has still to fill: of the block 0
-- of a file, or of a data block.
pub record IsUnfilled (s : YmSender) (position : ℕ) : Type 0 where
  pub at : s.place ≡ position
  pub out : s.mode ≡ mode_code Sent
  pub runs : s.state ≡ send_code Running
  pub tries : s.retries < GIVE_UP
  pub empty : s.len ≡ 0

-- what is to be filled
abbrev pub IsFill : Option Position → YmFill → Type 0
IsFill (Some (Header file)) fill = (fill.kind ≡ 1) × (fill.file ≡ file)
IsFill (Some (Block file k)) fill = (fill.kind ≡ 2) × (fill.file ≡ file) × (fill.number ≡ k)
IsFill _ fill = fill.kind ≡ 0

-- what becomes of the frame: an EOT and an end block are filled without the host; what the host is
-- to fill is empty until it does; and where nothing is to be filled, the frame stays as it was, to
-- be sent again
abbrev pub IsFilled : Option Position → YmSender → YmSender → Type 0
IsFilled (Some (Header file)) old new = new.len ≡ 0
IsFilled (Some (Block file k)) old new = new.len ≡ 0
IsFilled (Some (Eot file)) old new = take new.len new.frame ≡ 0x04 ∷ []
IsFilled (Some End) old new = IsBlockFrame 0 end_text (take new.len new.frame)
IsFilled None old new = (new.len ≡ old.len) × (new.frame ≡ old.frame)

-- what is to be sent: 0 nothing, 1 the frame, 2 CAN CAN
abbrev pub out_in : SendState → Mode → Bool → ℕ
out_in Running Sent cancel_pending = 1
out_in Running Waiting cancel_pending = 0
out_in NoReply mode cancel_pending = bool_code cancel_pending * 2
out_in SourceFailed mode cancel_pending = bool_code cancel_pending * 2
out_in Finished mode cancel_pending = 0
out_in Cancelled mode cancel_pending = 0

abbrev pub out_code : Standing → ℕ
out_code s = out_in s.state s.mode s.cancel_pending
