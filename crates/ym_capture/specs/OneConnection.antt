-- The one connection of a capture: what each packet brings of it, and which way that went.
use Rattle.std.specs.Prelude.{ℕ, Bool, if◌then◌else◌, List, [], Option, Some, None, Result, Ok, Err}
use Rattle.ym_told.specs.BothStand.{other_way}
use Rattle.ym_told.specs.declared.way.Direction.{Direction}
use Rattle.ym_capture.specs.PacketParts.{ip_in, is_tcp, fault_in}
use Rattle.ym_capture.specs.TwoSides.{first_sides, sides_for, behind, fresh_of, way_of}
use Rattle.ym_capture.specs.declared.connection.Connection.{Connection}
use Rattle.ym_capture.specs.declared.fault.CaptureFault.{CaptureFault}
use Rattle.ym_capture.specs.declared.head.Link.{Link}
use Rattle.ym_capture.specs.declared.sides.Sides.{Sides}

abbrev pub none_yet : Link → Bool → Connection
none_yet link turned = record { link = link; turned = turned; sides = None }

abbrev pub sides_by : Option Sides → List ℕ → Sides
sides_by (Some sides) ip = sides_for sides ip
sides_by None ip = first_sides ip

-- The first packet of TCP says between which ends it is; or where no byte of that connection came,
-- the first one of the next.
abbrev pub sides_at : Connection → List ℕ → Sides
sides_at at ip = sides_by at.sides ip

abbrev pub with_sides : Connection → Result Sides CaptureFault → Result Connection CaptureFault
with_sides at (Ok sides) = Ok (record { link = at.link; turned = at.turned; sides = Some sides })
with_sides at (Err why) = Err why

abbrev pub behind_if_whole :
    Connection → List ℕ → Option CaptureFault → Result Connection CaptureFault
behind_if_whole at ip (Some why) = Err why
behind_if_whole at ip None = with_sides at (behind (sides_at at ip) ip)

abbrev pub behind_ip : Connection → List ℕ → Result Connection CaptureFault
behind_ip at ip = if is_tcp ip then behind_if_whole at ip (fault_in ip) else Ok at

-- the connection behind a packet; one that is no TCP changes nothing
unfoldable pub behind_packet : Connection → List ℕ → Result Connection CaptureFault
behind_packet at packet = behind_ip at (ip_in at.link packet)

abbrev pub fresh_in_ip : Connection → List ℕ → List ℕ
fresh_in_ip at ip = if is_tcp ip then fresh_of (sides_at at ip) ip else []

-- the bytes that a packet brings and none before it brought
unfoldable pub fresh_in : Connection → List ℕ → List ℕ
fresh_in at packet = fresh_in_ip at (ip_in at.link packet)

abbrev pub way_in_ip : Connection → List ℕ → Direction
way_in_ip at ip =
    if at.turned then other_way (way_of (sides_at at ip) ip) else way_of (sides_at at ip) ip

-- the way in which they went, by what is known behind the packet
unfoldable pub way_in : Connection → List ℕ → Direction
way_in at packet = way_in_ip at (ip_in at.link packet)
