-- What a packet carries: the internet protocol of either version, and TCP.
use Rattle.std.specs.Prelude.{ℕ, ◌+◌, ◌*◌, ◌/◌, ◌%◌, ◌==◌, nat_lt, not, ◌||◌, Bool, true, false, if◌then◌else◌, List, [], length, take, drop, slice_index, Option, Some, None}
use Rattle.ym_capture.specs.CaptureNumbers.{two, four, eight}
use Rattle.ym_capture.specs.declared.fault.CaptureFault.{CaptureFault}
use Rattle.ym_capture.specs.declared.fault.CaptureFault.TheVariants.{Short, Fragment}
use Rattle.ym_capture.specs.declared.head.Link.{Link}
use Rattle.ym_capture.specs.declared.head.Link.TheVariants as link
use Rattle.ym_capture.specs.declared.ip.Version.{Version}
use Rattle.ym_capture.specs.declared.ip.Version.TheVariants.{Four, Six, Other}

abbrev pub ip_by : ℕ → List ℕ → List ℕ
ip_by protocol body = if protocol == 0x0800 || protocol == 0x86dd then body else []

-- a tag of a VLAN, IEEE 802.1Q: two bytes, and the number of the protocol behind it
abbrev pub is_tag : ℕ → Bool
is_tag protocol = protocol == 0x8100 || protocol == 0x88a8

abbrev pub ip_behind_tag : ℕ → List ℕ → List ℕ
ip_behind_tag protocol body =
    if is_tag protocol then ip_by (two (drop 2 body)) (drop 4 body) else ip_by protocol body

-- behind no tag, one, or two
abbrev pub ip_tagged : ℕ → List ℕ → List ℕ
ip_tagged protocol body =
    if is_tag protocol then ip_behind_tag (two (drop 2 body)) (drop 4 body)
    else ip_by protocol body

-- what stands behind the addresses of the link and the number of the protocol
unfoldable pub ip_in : Link → List ℕ → List ℕ
ip_in link.Loopback packet = drop 4 packet
ip_in link.Ethernet packet = ip_tagged (two (drop 12 packet)) (drop 14 packet)
ip_in link.Raw packet = packet
ip_in link.Cooked packet = ip_tagged (two (drop 14 packet)) (drop 16 packet)
ip_in link.CookedAgain packet = ip_tagged (two packet) (drop 20 packet)

abbrev pub version : List ℕ → Version
version ip =
    if slice_index ip 0 / 16 == 4 then Four else
    if slice_index ip 0 / 16 == 6 then Six else
    Other

abbrev pub is_tcp_at : Version → List ℕ → Bool
is_tcp_at Four ip = slice_index ip 9 == 6
is_tcp_at Six ip = slice_index ip 6 == 6
is_tcp_at Other ip = false

unfoldable pub is_tcp : List ℕ → Bool
is_tcp ip = is_tcp_at (version ip) ip

-- more parts follow, or it is not the first
abbrev pub is_fragment_at : Version → List ℕ → Bool
is_fragment_at Four ip = not (two (drop 6 ip) % 0x4000 == 0)
is_fragment_at Six ip = false
is_fragment_at Other ip = false

unfoldable pub is_fragment : List ℕ → Bool
is_fragment ip = is_fragment_at (version ip) ip

abbrev pub header_len_at : Version → List ℕ → ℕ
header_len_at Four ip = slice_index ip 0 % 16 * 4
header_len_at Six ip = 40
header_len_at Other ip = 0

unfoldable pub header_len : List ℕ → ℕ
header_len ip = header_len_at (version ip) ip

-- a length of 0 stands for all that is there
abbrev pub total_by : ℕ → ℕ → List ℕ → ℕ
total_by stated before ip = if stated == 0 then length ip else before + stated

abbrev pub total_len_at : Version → List ℕ → ℕ
total_len_at Four ip = total_by (two (drop 2 ip)) 0 ip
total_len_at Six ip = total_by (two (drop 4 ip)) 40 ip
total_len_at Other ip = length ip

unfoldable pub total_len : List ℕ → ℕ
total_len ip = total_len_at (version ip) ip

unfoldable pub tcp_in : List ℕ → List ℕ
tcp_in ip = drop (header_len ip) (take (total_len ip) ip)

-- ---- TCP

unfoldable pub number : List ℕ → ℕ
number tcp = four (drop 4 tcp)

-- the bit of an opening
unfoldable pub opens : List ℕ → Bool
opens tcp = slice_index tcp 13 / 2 % 2 == 1

unfoldable pub tcp_header_len : List ℕ → ℕ
tcp_header_len tcp = slice_index tcp 12 / 16 * 4

unfoldable pub data_of : List ℕ → List ℕ
data_of tcp = drop (tcp_header_len tcp) tcp

-- its header has 20 bytes at least
abbrev pub is_short : List ℕ → Bool
is_short tcp =
    nat_lt (length tcp) 20 || nat_lt (tcp_header_len tcp) 20
    || nat_lt (length tcp) (tcp_header_len tcp)

-- why a packet of TCP cannot be read, if it cannot
unfoldable pub fault_in : List ℕ → Option CaptureFault
fault_in ip =
    if is_fragment ip then Some Fragment else
    if nat_lt (length ip) (total_len ip) then Some Short else
    if is_short (tcp_in ip) then Some Short else
    None
