-- How a record grows.
use Rattle.std.specs.Prelude.{◌≡◌, ℕ, List, [], Option, None, Some, Bool, true, false}
use Rattle.std.specs.Prelude.{is_some}
use Rattle.std.specs.Io.KnownBytes.{append_known}
use Rattle.std.specs.declared.io.Error.{Error}
use Rattle.ym_told.specs.declared.way.Direction.{Direction}
use Rattle.ym_timing.specs.declared.role.Role.{Role}
use Rattle.ym_timing.specs.declared.role.Role.TheVariants.{Sender, Receiver}
use Rattle.ym_told.specs.declared.way.Direction.TheVariants.{There, Back}
use Rattle.ym_capture.specs.RecordText.{line_of}

-- the piece that is held back, if one is: its moment, its way and its bytes
abbrev pub buffered_line : Option (ℕ × Direction) → List ℕ → List ℕ
buffered_line None bytes = []
buffered_line (Some buffered) bytes = line_of buffered.0 buffered.1 bytes

-- A record goes on by this text: what its file took, and behind that what waits, are all of it, in
-- order. Or a write failed, and it ends there. Where none is made none begins.
abbrev pub GoesOnBy : List ℕ → Option (Option (List ℕ)) → List ℕ → Option (Option (List ℕ))
    → List ℕ → Type 0
GoesOnBy text None waits new new_waits = new ≡ None
GoesOnBy text (Some taken) waits None new_waits = Unit {0}
GoesOnBy text (Some taken) waits (Some grown) new_waits =
    append_known grown new_waits ≡ append_known (append_known taken waits) text

-- where it ends it says why
abbrev pub SaysWhy : Bool → Bool → Option Error → Type 0
SaysWhy true false why = is_some why ≡ true
SaysWhy old new why = Unit {0}

-- which way an end writes, and which way it reads
abbrev pub written_way : Role → Direction
written_way Sender = There
written_way Receiver = Back

abbrev pub read_way : Role → Direction
read_way Sender = Back
read_way Receiver = There
