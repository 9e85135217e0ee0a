-- How a sender reads a delivery: its control bytes, in order, until one of them stops the scan.
--
-- Reference, "XMODEM Protocol Overview": after each block the sender waits for ACK or NAK, and NAK
-- asks for the same block again; "Graceful Abort": two CAN in a row cancel, and one does not. This
-- profile: ACK after a block 0 or an EOT leaves the sender waiting for C, C never acknowledges, and
-- of one delivery nothing is remembered at the next.
use Rattle.std.specs.Prelude.{ℕ, if◌then◌else◌, is_some, List, [], ◌∷◌, filter_map, None, Some}
use Rattle.ym_frame.specs.Control.{control_at}
use Rattle.ym_frame.specs.declared.control.Control.{Control}
use Rattle.ym_frame.specs.declared.control.Control.TheVariants.{Ack, Nak, Start, Can}
use Rattle.ym_core.specs.Position.{next_of}
use Rattle.ym_core.specs.declared.position.Position.{Position}
use Rattle.ym_core.specs.declared.position.Position.TheVariants.{Header, Block, Eot, End}
use Rattle.ym_core.specs.declared.position.Mode.{Mode}
use Rattle.ym_core.specs.declared.position.Mode.TheVariants.{Waiting, Sent}
use Rattle.ym_core.specs.declared.scan.Stop.{Stop}
use Rattle.ym_core.specs.declared.scan.Stop.TheVariants.{Sends, Again, Finishes, Cancels}
use Rattle.ym_core.specs.declared.scan.Scan.{Scan}

-- the controls of a delivery: every other byte is dropped
abbrev pub controls_in : List ℕ → List Control
controls_in bytes = filter_map control_at bytes

-- what comes next is read from this position and mode on
abbrev pub goes_on : Position → Mode → Scan
goes_on position mode = record { position = position; mode = mode; stop = None }

abbrev pub stops : Position → Mode → Stop → Scan
stops position mode stop = record { position = position; mode = mode; stop = Some stop }

-- One control, by the mode and the position at which it is read. A CAN that begins no CAN CAN is
-- passed over.
abbrev pub reads_control : List ℕ → Mode → Control → Position → Scan
-- the next frame is sent at once
reads_control counts Sent Ack (Block file k) = stops (next_of counts (Block file k)) Sent Sends
-- the next frame waits for C
reads_control counts Sent Ack (Header file) = goes_on (next_of counts (Header file)) Waiting
-- so it does, and one more file is done
reads_control counts Sent Ack (Eot file) = goes_on (next_of counts (Eot file)) Waiting
reads_control counts Sent Ack End = stops End Sent Finishes
reads_control counts Sent Nak position = stops position Sent Again
reads_control counts Sent Start position = stops position Sent Again
reads_control counts Waiting Start position = stops position Sent Sends
reads_control counts Waiting Ack position = goes_on position Waiting
reads_control counts Waiting Nak position = goes_on position Waiting
reads_control counts mode Can position = goes_on position mode

-- the controls in order, until one stops the scan; two CAN in a row cancel
abbrev pub reads : List ℕ → Position → Mode → List Control → Scan
reads counts position mode [] = goes_on position mode
reads counts position mode (Can ∷ Can ∷ more) = stops position mode Cancels
reads counts position mode (control ∷ more) =
    if is_some (reads_control counts mode control position).stop
    then reads_control counts mode control position
    else reads counts (reads_control counts mode control position).position
    (reads_control counts mode control position).mode more
