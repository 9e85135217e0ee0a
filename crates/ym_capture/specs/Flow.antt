-- One way of a connection: which bytes of a segment are new, by their numbers, which go round.
use Rattle.std.specs.Prelude.{ℕ, ◌+◌, ◌-◌, ◌%◌, ◌^◌, ◌==◌, nat_lt, nat_le, not, ◌&&◌, Bool, if◌then◌else◌, List, length, drop, Option, Some, None, unwrap_or}
use Rattle.ym_capture.specs.PacketParts.{number, opens, data_of}

-- the number of its first byte of data: an opening counts as a byte
unfoldable pub start_of : List ℕ → ℕ
start_of tcp = if opens tcp then (number tcp + 1) % 2 ^ 32 else number tcp

-- how many numbers its own is behind the one that comes next
abbrev pub behind_next : Option ℕ → ℕ → ℕ
behind_next (Some next) start = (next + (2 ^ 32 - start)) % 2 ^ 32
behind_next None start = 0

-- an opening begins anew
unfoldable pub seen_of : Option ℕ → List ℕ → ℕ
seen_of next tcp = if opens tcp then 0 else behind_next next (number tcp)

-- half a round behind is ahead
unfoldable pub is_ahead : Option ℕ → List ℕ → Bool
is_ahead next tcp = nat_lt 0 (length (data_of tcp)) && nat_le (2 ^ 31) (seen_of next tcp)

unfoldable pub fresh_in : Option ℕ → List ℕ → List ℕ
fresh_in next tcp = drop (seen_of next tcp) (data_of tcp)

abbrev pub counted : ℕ → ℕ → ℕ
counted number count = (number + count % 2 ^ 32) % 2 ^ 32

unfoldable pub next_behind : Option ℕ → List ℕ → Option ℕ
next_behind next tcp =
    if opens tcp then Some (counted (start_of tcp) (length (fresh_in next tcp))) else
    if length (fresh_in next tcp) == 0 then next else
    Some (counted (unwrap_or next (number tcp)) (length (fresh_in next tcp)))
