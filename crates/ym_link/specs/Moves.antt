-- What a delivery does to the place of a sender: it stays, or goes past a frame that was sent and
-- acknowledged; and so it finishes behind the end block.
--
-- It follows from the sender's table, and is what the table is for.
use Rattle.std.specs.Prelude.{◌≡◌, ◌⊎◌, ℕ, Bool, List, ◌∷◌, All}
use Rattle.ym_frame.specs.declared.control.Control.{Control}
use Rattle.ym_frame.specs.declared.control.Control.TheVariants.{Ack, Can}
use Rattle.ym_core.specs.Position.{next_of}
use Rattle.ym_core.specs.Standing.{hears}
use Rattle.ym_core.specs.declared.position.Mode.{Mode}
use Rattle.ym_core.specs.declared.position.Mode.TheVariants.{Sent}
use Rattle.ym_core.specs.declared.position.Position.{Position}
use Rattle.ym_core.specs.declared.position.Position.TheVariants.{End}
use Rattle.ym_core.specs.declared.standing.SendStep.{SendStep}
use Rattle.ym_core.specs.declared.standing.Standing.{Standing}
use Rattle.ym_core.specs.declared.state.SendState.TheVariants.{Running, Finished}
use Rattle.ym_file.specs.SourceFile.{IsFile}
use Rattle.ym_link.specs.Sender.{SenderParts, IsStep, counts}

-- another frame stands behind it
abbrev pub IsBefore : Position → Type 0
IsBefore End = ⊥
IsBefore position = Unit {0}

-- the first control that says something is an ACK: a CAN alone in front of it says nothing
abbrev pub SaysAck : List Control → Type 0
SaysAck (Ack ∷ more) = Unit {0}
SaysAck (Can ∷ Ack ∷ more) = Unit {0}
SaysAck _ = ⊥

-- the position stays, or it is the next one, behind an ACK of what was sent
abbrev pub Moves : List ℕ → Position → Mode → List Control → Position → Type 0
Moves counts position mode cs new =
    (new ≡ position) ⊎
    ((mode ≡ Sent) × IsBefore position × SaysAck cs × (new ≡ next_of counts position))

-- a delivery at which a sender finishes
pub record FinishesAt (s : Standing) (cs : List Control) (new : Position) : Type 0 where
  pub position : s.position ≡ End
  pub after : new ≡ End
  pub mode : s.mode ≡ Sent
  pub ack : SaysAck cs

-- ---- What the laws say

abbrev pub GoesOnePosition : Type 0
GoesOnePosition =
    (s : SenderParts) (cs : List Control) (failed : Bool) (new : SenderParts) →
    s.standing.state ≡ Running → IsStep s (hears (counts s) s.standing cs) failed new →
    Moves (counts s) s.standing.position s.standing.mode cs new.standing.position

abbrev pub FinishesLast : Type 0
FinishesLast =
    (s : SenderParts) (cs : List Control) (failed : Bool) (new : SenderParts) →
    s.standing.state ≡ Running → IsStep s (hears (counts s) s.standing cs) failed new →
    new.standing.state ≡ Finished → FinishesAt s.standing cs new.standing.position

-- how many blocks each file has stays, and each file stays within its limits
abbrev pub KeepsCounts : Type 0
KeepsCounts =
    (s : SenderParts) (step : SendStep) (failed : Bool) (new : SenderParts) →
    IsStep s step failed new → counts new ≡ counts s

abbrev pub KeepsFiles : Type 0
KeepsFiles =
    (s : SenderParts) (step : SendStep) (failed : Bool) (new : SenderParts) →
    IsStep s step failed new → All IsFile s.files → All IsFile new.files
