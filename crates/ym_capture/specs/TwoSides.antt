-- The two ends of a connection, and which of them sends files.
use Rattle.std.specs.Prelude.{ℕ, ◌==◌, ◌&&◌, ◌||◌, Bool, true, false, if◌then◌else◌, List, [], ◌∷◌, drop, Option, Some, None, unwrap_or, Result, Ok, Err}
use Rattle.ym_told.specs.BothStand.{other_way}
use Rattle.ym_told.specs.declared.way.Direction.{Direction}
use Rattle.ym_told.specs.declared.way.Direction.TheVariants.{There, Back}
use Rattle.ym_capture.specs.CaptureNumbers.{two, four, eight}
use Rattle.ym_capture.specs.PacketParts.{version, tcp_in}
use Rattle.ym_capture.specs.Flow.{is_ahead, fresh_in, next_behind}
use Rattle.ym_capture.specs.declared.fault.CaptureFault.{CaptureFault}
use Rattle.ym_capture.specs.declared.fault.CaptureFault.TheVariants as fault
use Rattle.ym_capture.specs.declared.ip.Version.{Version}
use Rattle.ym_capture.specs.declared.ip.Version.TheVariants.{Four, Six, Other}
use Rattle.ym_capture.specs.declared.sides.End.{End}
use Rattle.ym_capture.specs.declared.sides.Side.{Side}
use Rattle.ym_capture.specs.declared.sides.Side.TheVariants.{First, Second}
use Rattle.ym_capture.specs.declared.sides.Sides.{Sides}

abbrev pub same_end : End → End → Bool
same_end a b = a.high == b.high && (a.low == b.low && a.port == b.port)

abbrev pub end_four : List ℕ → ℕ → End
end_four address port = record { high = 0; low = four address; port = port }

-- the two halves of an address of sixteen bytes
abbrev pub end_six : List ℕ → List ℕ → ℕ → End
end_six high low port = record { high = eight high; low = eight low; port = port }

abbrev pub source_at : Version → List ℕ → ℕ → End
source_at Four ip port = end_four (drop 12 ip) port
source_at Six ip port = end_six (drop 8 ip) (drop 16 ip) port
source_at Other ip port = end_four (drop 12 ip) port

unfoldable pub source : List ℕ → End
source ip = source_at (version ip) ip (two (tcp_in ip))

abbrev pub target_at : Version → List ℕ → ℕ → End
target_at Four ip port = end_four (drop 16 ip) port
target_at Six ip port = end_six (drop 24 ip) (drop 32 ip) port
target_at Other ip port = end_four (drop 16 ip) port

unfoldable pub target : List ℕ → End
target ip = target_at (version ip) ip (two (drop 2 (tcp_in ip)))

-- of the connection to which this packet belongs nothing passed yet
abbrev pub first_sides : List ℕ → Sides
first_sides ip = record {
  first = source ip;
  second = target ip;
  first_next = None;
  second_next = None;
  first_way = None;
}

abbrev pub side_of : Sides → List ℕ → Option Side
side_of sides ip =
    if same_end (source ip) sides.first && same_end (target ip) sides.second then Some First else
    if same_end (source ip) sides.second && same_end (target ip) sides.first then Some Second else
    None

abbrev pub or_next : Option Direction → Option Side → Sides → List ℕ → Sides
or_next None None sides ip = first_sides ip
or_next None (Some side) sides ip = sides
or_next (Some way) side sides ip = sides

-- A packet of another connection begins that, where no byte of this one came: this was refused.
abbrev pub sides_for : Sides → List ℕ → Sides
sides_for sides ip = or_next sides.first_way (side_of sides ip) sides ip

abbrev pub next_for : Sides → Side → Option ℕ
next_for sides First = sides.first_next
next_for sides Second = sides.second_next

-- C, NAK and G ask for files
abbrev pub asks : ℕ → Bool
asks byte = byte == 0x43 || byte == 0x15 || byte == 0x47

-- 01 and 02 begin blocks
abbrev pub begins : ℕ → Bool
begins byte = byte == 0x01 || byte == 0x02

-- who begins by asking receives files, who begins by a block sends them, and else the first end
-- does
abbrev pub first_way_of : Side → ℕ → Direction
first_way_of First byte = if asks byte then Back else There
first_way_of Second byte = if begins byte then Back else There

-- the first byte of all makes the ways known
abbrev pub way_by_byte : Option Direction → Side → List ℕ → Option Direction
way_by_byte (Some way) side fresh = Some way
way_by_byte None side [] = None
way_by_byte None side (byte ∷ more) = Some (first_way_of side byte)

abbrev pub with_next : Sides → Side → Option ℕ → List ℕ → Sides
with_next sides First next fresh =
    record sides { first_next = next; first_way = way_by_byte sides.first_way First fresh }
with_next sides Second next fresh =
    record sides { second_next = next; first_way = way_by_byte sides.first_way Second fresh }

abbrev pub behind_side : Sides → Side → List ℕ → Result Sides CaptureFault
behind_side sides side tcp =
    let next = next_for sides side in
    if is_ahead next tcp then Err fault.Gap else
    Ok (with_next sides side (next_behind next tcp) (fresh_in next tcp))

abbrev pub behind_by : Option Side → Sides → List ℕ → Result Sides CaptureFault
behind_by (Some side) sides tcp = behind_side sides side tcp
behind_by None sides tcp = Err fault.Second

-- a packet of another connection is a fault
abbrev pub behind : Sides → List ℕ → Result Sides CaptureFault
behind sides ip = behind_by (side_of sides ip) sides (tcp_in ip)

abbrev pub fresh_by : Option Side → Sides → List ℕ → List ℕ
fresh_by (Some side) sides tcp = fresh_in (next_for sides side) tcp
fresh_by None sides tcp = []

abbrev pub fresh_of : Sides → List ℕ → List ℕ
fresh_of sides ip = fresh_by (side_of sides ip) sides (tcp_in ip)

abbrev pub way_by : Option Side → Direction → Direction
way_by (Some First) way = way
way_by (Some Second) way = other_way way
way_by None way = way

abbrev pub way_of : Sides → List ℕ → Direction
way_of sides ip = way_by (side_of sides ip) (unwrap_or sides.first_way There)
