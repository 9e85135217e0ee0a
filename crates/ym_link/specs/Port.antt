-- What is still to come to a port, and what one read takes of it (this profile).
use Rattle.std.specs.Prelude.{ℕ, Bool, nat_lt, List, [], ◌∷◌, ◌++◌, length, take, drop, Result, Ok, Err, if◌then◌else◌}
use Rattle.ym_link.specs.declared.event.Event.{Event}
use Rattle.ym_link.specs.declared.event.Event.TheVariants as event
use Rattle.ym_link.specs.declared.port.Got.{Got}
use Rattle.ym_link.specs.declared.port.Got.TheVariants as got
use Rattle.ym_link.specs.declared.port.PortFault.{PortFault}

-- the events still to come, past whose end the port is closed, and the bytes written so far
pub record Tape : Type 0 where
  pub coming : List Event
  pub written : List ℕ

-- what the caller of a read sees
pub data Seen : Type 0 where
  Data : List ℕ → Seen
  Silence : Seen
  End : Seen
  Failed : Seen

abbrev pub seen_of : Result Got PortFault → List ℕ → Seen
seen_of (Ok (got.Bytes n)) buf = Data (take n buf)
seen_of (Ok got.Quiet) buf = Silence
seen_of (Ok got.Closed) buf = End
seen_of (Err e) buf = Failed

-- the same as an event
abbrev pub event_of : Seen → Event
event_of (Data bytes) = event.Piece bytes
event_of Silence = event.Quiet
event_of End = event.Closed
event_of Failed = event.Fault

-- what a read into a buffer of this length gives: a longer piece comes in parts
abbrev pub read_gives : ℕ → List Event → Seen
read_gives room [] = End
read_gives room (event.Piece [] ∷ rest) = Silence
read_gives room (event.Piece (b ∷ bs) ∷ rest) =
    if nat_lt room (length (b ∷ bs)) then Data (take room (b ∷ bs)) else Data (b ∷ bs)
read_gives room (event.Quiet ∷ rest) = Silence
read_gives room (event.Closed ∷ rest) = End
read_gives room (event.Fault ∷ rest) = Failed

-- what it leaves
abbrev pub read_leaves : ℕ → List Event → List Event
read_leaves room [] = []
read_leaves room (event.Piece [] ∷ rest) = rest
read_leaves room (event.Piece (b ∷ bs) ∷ rest) =
    if nat_lt room (length (b ∷ bs)) then event.Piece (drop room (b ∷ bs)) ∷ rest else rest
read_leaves room (event.Quiet ∷ rest) = rest
read_leaves room (event.Closed ∷ rest) = rest
read_leaves room (event.Fault ∷ rest) = rest

-- a write adds its bytes, or, where it fails, nothing
abbrev pub after_write : Bool → Tape → List ℕ → Tape
after_write ok t bytes = if ok then record t { written = t.written ++ bytes } else t
