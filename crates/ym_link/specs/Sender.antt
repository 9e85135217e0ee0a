-- A sender as contracts see it: where it stands, its files and its frame.
use Rattle.std.specs.Prelude.{◌≡◌, ℕ, ◌<◌, length, Bool, true, false, List, [], ◌∷◌, slice_set, All, Option, None, Some}
use Rattle.ym_file.specs.Counts.{Counted}
use Rattle.ym_file.specs.declared.plan.Shape.{Shape}
use Rattle.ym_file.specs.SourceFile.{FileParts, IsFile, file_at, filled, counts_of}
use Rattle.ym_core.specs.Position.{IsPosition}
use Rattle.ym_link.specs.FrameAt.{IsFrameAt}
use Rattle.ym_core.specs.Scan.{controls_in, reads}
use Rattle.ym_core.specs.declared.scan.Scan.{Scan}
use Rattle.ym_core.specs.Standing.{hears, after_fill}
use Rattle.ym_core.specs.declared.position.Position.{Position}
use Rattle.ym_core.specs.declared.position.Position.TheVariants.{Block}
use Rattle.ym_core.specs.declared.position.Mode.{Mode}
use Rattle.ym_core.specs.declared.position.Mode.TheVariants.{Sent}
use Rattle.ym_core.specs.declared.standing.Standing.{Standing}
use Rattle.ym_core.specs.declared.standing.SendStep.{SendStep as Step}
use Rattle.ym_core.specs.declared.state.SendState.{SendState}
use Rattle.ym_core.specs.declared.state.SendState.TheVariants.{Running, NoReply, SourceFailed}
use Rattle.ym_machine.specs.declared.limits.TheConstants.{GIVE_UP}

-- the source of a data block's file was asked to fill, once, and nothing else of the batch changed
pub record FilledAt (file : ℕ) (old new : List FileParts) : Type 0 where
  pub within : file < length old
  pub after : new ≡ slice_set old file (filled (file_at old file))

-- it was asked once and failed: its failure count rose too
pub record FailedAt (file : ℕ) (old new : List FileParts) : Type 0 where
  pub within : file < length old
  pub failures : ℕ
  pub counted_failure : Counted (file_at old file).failures failures
  pub after : new ≡ slice_set old file (record (filled (file_at old file)) { failures = failures })

-- What filling a position's frame, which failed or not, does to the files. Only a data block is
-- filled from its source, and its source is asked once.
abbrev pub IsFilled : Bool → Option Position → List FileParts → List FileParts → Type 0
IsFilled false (Some (Block file k)) old new = FilledAt file old new
IsFilled true (Some (Block file k)) old new = FailedAt file old new
IsFilled false fills old new = new ≡ old
IsFilled true fills old new = ⊥

pub record SenderParts : Type 0 where
  pub standing : Standing
  pub shape : Shape
  pub files : List FileParts
  pub frame : List ℕ  -- the frame that was filled last

abbrev pub counts : SenderParts → List ℕ
counts s = counts_of s.shape s.files

-- the frame held is that of the position filled, else it is still the same
abbrev pub IsHeld : Option Position → SenderParts → List ℕ → Type 0
IsHeld None new old = new.frame ≡ old
IsHeld (Some position) new old = IsFrameAt new.shape new.files position new.frame

-- what a delivery does to a sender, where its source failed at it or not
pub record IsStep (old : SenderParts) (taken : Step) (failed : Bool)
    (new : SenderParts) : Type 0 where
  pub files : IsFilled failed taken.fills old.files new.files
  pub standing : new.standing ≡ after_fill failed taken.fills taken.standing
  pub frame : failed ≡ false → IsHeld taken.fills new old.frame
  pub shape : new.shape ≡ old.shape

-- a sender hears a delivery: its own source tells whether it failed
abbrev pub Hears : SenderParts → List ℕ → SenderParts → Type 0
Hears old bytes new =
    (failed : Bool) × IsStep old (hears (counts old) old.standing (controls_in bytes)) failed new

-- what a running sender reads in a delivery, by where it stands
pub record IsRead (counted : List ℕ) (s : Standing) (bytes : List ℕ) (read : Scan) : Type 0 where
  pub runs : s.state ≡ Running
  pub exact : read ≡ reads counted s.position s.mode (controls_in bytes)
  pub position : IsPosition counted read.position

-- the same by the sender
abbrev pub IsScan : SenderParts → List ℕ → Scan → Type 0
IsScan s bytes read = IsRead (counts s) s.standing bytes read

-- what is to be sent: the frame held, CAN CAN, or nothing
abbrev pub spoken_in : SendState → Mode → Bool → List ℕ → Option (List ℕ)
spoken_in Running Sent cancel_pending frame = Some frame
spoken_in NoReply mode true frame = Some (0x18 ∷ 0x18 ∷ [])
spoken_in SourceFailed mode true frame = Some (0x18 ∷ 0x18 ∷ [])
spoken_in _ mode cancel_pending frame = None

abbrev pub spoken : SenderParts → Option (List ℕ)
spoken s = spoken_in s.standing.state s.standing.mode s.standing.cancel_pending s.frame

-- What each sender keeps to: while it runs and has sent, it holds the frame of its place.
pub record IsSender (s : SenderParts) : Type 0 where
  pub files : All IsFile s.files
  pub position : IsPosition (counts s) s.standing.position
  pub retries : s.standing.state ≡ Running → s.standing.retries < GIVE_UP
  pub frame : s.standing.state ≡ Running → s.standing.mode ≡ Sent →
      IsFrameAt s.shape s.files s.standing.position s.frame
