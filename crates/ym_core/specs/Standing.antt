-- What a delivery does to a sender, apart from its files and its frame.
use Rattle.std.specs.Prelude.{◌≡◌, ℕ, ◌+◌, nat_lt, if◌then◌else◌, Bool, true, false, is_some, List, Option, None, Some}
use Rattle.ym_frame.specs.declared.control.Control.{Control}
use Rattle.ym_machine.specs.declared.limits.TheConstants.{GIVE_UP}
use Rattle.ym_core.specs.Position.{first_of}
use Rattle.ym_core.specs.Scan.{reads}
use Rattle.ym_core.specs.declared.position.Position.{Position}
use Rattle.ym_core.specs.declared.position.Position.TheVariants.{Block}
use Rattle.ym_core.specs.declared.position.Mode.{Mode}
use Rattle.ym_core.specs.declared.position.Mode.TheVariants.{Waiting, Sent}
use Rattle.ym_core.specs.declared.scan.Stop.{Stop}
use Rattle.ym_core.specs.declared.scan.Stop.TheVariants.{Sends, Again, Finishes, Cancels}
use Rattle.ym_core.specs.declared.standing.Standing.{Standing}
use Rattle.ym_core.specs.declared.standing.SendStep.{SendStep as Step}
use Rattle.ym_core.specs.declared.state.SendState.{SendState}
use Rattle.ym_core.specs.declared.state.SendState.TheVariants.{Running, Finished, NoReply, Cancelled, SourceFailed}

-- waiting at the first frame
abbrev pub new_standing : List ℕ → Standing
new_standing counts =
    record {
      position = first_of counts;
      mode = Waiting;
      retries = 0;
      state = Running;
      cancel_pending = false;
    }

-- to a standing, where this position's frame is filled, if any is
abbrev pub step_to : Standing → Option Position → Step
step_to s fills = record { standing = s; fills = fills }

-- no frame is filled
abbrev pub step : Standing → Step
step s = record { standing = s; fills = None }

-- no progress: at the last of so many deliveries in a row the sender gives up, with CAN CAN to go
-- (reference, "XMODEM Protocol Overview": errors are retried 10 times)
abbrev pub missed : Standing → Step
missed s =
    if nat_lt (s.retries + 1) GIVE_UP then step (record s { retries = s.retries + 1 })
    else step (record s { retries = s.retries + 1; state = NoReply; cancel_pending = true })

-- progress: the position or the mode changed
abbrev pub moved : Standing → Position → Mode → Standing
moved s position mode = record s { position = position; mode = mode; retries = 0 }

-- at the same position, in the same mode
pub record IsSame (old new : Standing) : Type 0 where
  pub position : new.position ≡ old.position
  pub mode : new.mode ≡ old.mode

-- The controls came to their end: the sender has moved where its mode changed.
abbrev pub read_through : Standing → Position → Mode → Mode → Step
read_through s position Sent Sent = missed s
read_through s position Waiting Waiting = missed s
read_through s position old new = step (moved s position new)

abbrev pub after_scan : Standing → Position → Mode → Option Stop → Step
after_scan s position mode None = read_through s position s.mode mode
after_scan s position mode (Some Again) = missed s
after_scan s position mode (Some Sends) =
    record { standing = moved s position mode; fills = Some position }
after_scan s position mode (Some Finishes) = step (record s { state = Finished })
after_scan s position mode (Some Cancels) =
    step (record s { position = position; mode = mode; state = Cancelled })

abbrev pub runs : List ℕ → Standing → List Control → Step
runs counts s controls =
    let r = reads counts s.position s.mode controls in
    after_scan s r.position r.mode r.stop

-- a sender that has ended hears no more, and has said its CAN CAN
abbrev pub hears_in : SendState → List ℕ → Standing → List Control → Step
hears_in Running counts s controls = runs counts s controls
hears_in ended counts s controls = step (record s { cancel_pending = false })

abbrev pub hears : List ℕ → Standing → List Control → Step
hears counts s controls = hears_in s.state counts s controls

-- the scan stops, so that more bytes change nothing
abbrev pub is_settled_in : SendState → List ℕ → Standing → List Control → Bool
is_settled_in Running counts s controls = is_some (reads counts s.position s.mode controls).stop
is_settled_in ended counts s controls = true

abbrev pub is_settled : List ℕ → Standing → List Control → Bool
is_settled counts s controls = is_settled_in s.state counts s controls

-- Only a data block is filled from a source. Where that fails, the position has moved, and the
-- sender has ended, with CAN CAN to go.
abbrev pub after_fill : Bool → Option Position → Standing → Standing
after_fill true (Some (Block file k)) s = record s { state = SourceFailed; cancel_pending = true }
after_fill failed fills s = s
