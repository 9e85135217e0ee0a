-- What an end may come to hear of a line through its port, as it reads and writes (this profile).
use Rattle.std.specs.Prelude.{◌≡◌, ℕ, Bool, List, [], ◌∷◌, ◌++◌, Ok, Err}
use Rattle.ym_link.specs.Port.{event_of}
use Rattle.ym_link.specs.declared.event.Event.{Event}
use Rattle.ym_link.specs.declared.port.PortFault.{PortFault}
use Rattle.ym_link.specs.declared.port.Wait.{Wait}
use Rattle.ym_port.specs.TimedPort as table
use Rattle.ym_port.specs.Wire.{Tape, after_write}
use Rattle.ym_port.specs.declared.deed.Deed.{Deed}
use Rattle.ym_port.specs.declared.deed.Deed.TheVariants.{Looked, Waited, Wrote}
use Rattle.ym_port.specs.declared.line.Line.{Line}
use Rattle.ym_timing.specs.declared.purge.Purge.{Purge}

-- the bytes that were written
abbrev pub bytes_in : Deed → List ℕ
bytes_in Looked = []
bytes_in (Waited millis) = []
bytes_in (Wrote bytes) = bytes

abbrev pub written_of : List Deed → List ℕ
written_of [] = []
written_of (deed ∷ done) = bytes_in deed ++ written_of done

-- Each read's result is an event, in order; a write drops what came while the line cleared, and may
-- fail then or when it is made. Of what is not read nothing is known.
pub data Passes : Line → Tape → List Event → Type 0 where
  over : (l : Line) (t : Tape) → Passes l t []
  reads : (l : Line) (t : Tape) (heard : List Event) (w : Wait) (room : ℕ)
      → Passes (table.read_of w room l t).line (table.read_of w room l t).tape heard
      → Passes l t (event_of (table.read_of w room l t).seen ∷ heard)
  writes : (l : Line) (t : Tape) (heard : List Event) (bytes : List ℕ) (c : Purge) (made : Bool)
      → (table.clears_for bytes l t).answer ≡ Ok c
      → Passes (table.writes bytes c (table.clears_for bytes l t).line)
      (after_write made (table.clears_for bytes l t).tape bytes) heard
      → Passes l t heard
  fails : (l : Line) (t : Tape) (heard : List Event) (bytes : List ℕ) (e : PortFault)
      → (table.clears_for bytes l t).answer ≡ Err e
      → Passes (table.clears_for bytes l t).line (table.clears_for bytes l t).tape heard
      → Passes l t heard
