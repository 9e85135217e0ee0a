-- A port that keeps a receiver in step: what its calls come to, by the events that come to the port
-- below (this profile).
use Rattle.std.specs.Prelude.{ℕ, nat_eq, ◌&&◌, Bool, false, List, [], ◌∷◌, take, Result, Ok, Err}
use Rattle.std.specs.Prelude.{if◌then◌else◌}
use Rattle.ym_link.specs.Delivery.{taken}
use Rattle.ym_link.specs.Port.{Seen, Data, Silence, End, Failed, read_gives, read_leaves, event_of}
use Rattle.ym_link.specs.ReceiveOver.{has_item}
use Rattle.ym_link.specs.declared.end_fault.EndFault.{EndFault}
use Rattle.ym_link.specs.declared.end_fault.EndFault.TheVariants as fault
use Rattle.ym_link.specs.declared.event.Event.{Event}
use Rattle.ym_link.specs.declared.port.TheConstants.{DELIVERY_LIMIT}
use Rattle.ym_link.specs.declared.port.Wait.{Wait as Asked}
use Rattle.ym_link.specs.declared.port.Wait.TheVariants as asked
use Rattle.ym_port.specs.Turn as turn
use Rattle.ym_port.specs.declared.turn.Next.{Next}
use Rattle.ym_port.specs.declared.turn.Turn.{Turn}

-- the bytes of a delivery that stands at the front of a buffer
abbrev pub gathered : Result ℕ EndFault → List ℕ → Result (List ℕ) EndFault
gathered (Ok count) buf = Ok (take count buf)
gathered (Err why) buf = Err why

-- what a read answers, where the receiver is then, and what is still to come
pub record Read : Type 0 where
  pub seen : Seen
  pub turn : Turn
  pub coming : List Event

abbrev pub gives : Seen → Turn → List Event → Read
gives seen t coming = record { seen = seen; turn = t; coming = coming }

-- a whole delivery is looked at, and handed on at once
abbrev pub hands_on : Result (List ℕ) EndFault → Turn → List Event → Read
hands_on (Ok []) t rest = gives Silence t rest
hands_on (Ok (b ∷ bytes)) t rest =
    gives (Data (turn.given (b ∷ bytes) t)) (turn.took (b ∷ bytes) t) rest
hands_on (Err fault.Closed) t rest = gives End t rest
hands_on (Err fault.Device) t rest = gives Failed t rest
hands_on (Err fault.Memory) t rest = gives Failed t rest

-- So it is where a block 0 may come, and there is room for the whole of a delivery.
abbrev pub gathers : Asked → ℕ → Next → Bool
gathers asked.Within room next = false
gathers asked.Reply room next = nat_eq room DELIVERY_LIMIT && turn.awaits_zero next

-- Behind a delivery that no frame ended the line is quiet.
abbrev pub read_of : Asked → ℕ → Turn → List Event → Read
read_of w room t coming =
    if t.is_over then gives Silence (record t { is_over = false }) coming
    else (if gathers w room t.next
    then hands_on (taken has_item [] coming).delivery t (taken has_item [] coming).rest
    else gives (read_gives room coming) t (read_leaves room coming))

-- What a receiver may come to hear of these events, as it reads and replies. Each read's result is
-- an event, in order. Of what is not read nothing is known.
pub data Passes : Turn → List Event → List Event → Type 0 where
  over : (t : Turn) (coming : List Event) → Passes t coming []
  reads : (t : Turn) (coming heard : List Event) (w : Asked) (room : ℕ)
      → Passes (read_of w room t coming).turn (read_of w room t coming).coming heard
      → Passes t coming (event_of (read_of w room t coming).seen ∷ heard)
  writes : (t : Turn) (coming heard : List Event) (reply : List ℕ)
      → Passes (turn.replied reply t) coming heard
      → Passes t coming heard
